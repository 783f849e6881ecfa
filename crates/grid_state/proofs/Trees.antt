-- Trees of places: climbing to a root, uniting two trees, and labelling the places.
use Rattle.std.proofs.Common.{◌≡◌, ℕ, ◌+◌, ◌<◌, ◌≤◌, ◌⊎◌, inl, inr, Bool, List, [], ◌∷◌, ◌++◌, length, get_or, set, take, arith, refl, sym, ap, subst, ◌∙◌, length-set, get_or-set_same, get_or-set_other}
use Rattle.std.proofs.lemmas.Bool.{cases_eq}
use Rattle.std.proofs.lemmas.List.{get_or_read, length-take-le, get_or-take, get_or_append_left, get_or_push, length_push}
use Rattle.std.proofs.lemmas.List.Elements.{All-more, All-push, All-weaker, All-get_or}
use Rattle.grid_state.specs.declared.links.Link.{Link}
use Rattle.grid_state.specs.Unions.{Respects, Follows, PointsUp, Climbs, Unites, AreTrees, AreLabels, LabelsFirst}

-- ---- climbing
pub climbs_none : (up : List ℕ) (from : ℕ) → PointsUp up → Climbs up up from from
climbs_none up from points = record {
  points = points;
  size = refl;
  above = omega arith;
  lower = λ s f. f;
  higher = λ s f. f;
  one_tree = λ s f. refl;
  roots = λ i e. e;
}

-- a list with one place changed
changed : (up : List ℕ) (at to : ℕ) (P : ℕ → ℕ → Type 0) → at < length up → P at to → ((i : ℕ) → (i ≡ at → ⊥) → i < length up → P i (get_or up i 0)) → (i : ℕ) → i < length (set up at to) → P i (get_or (set up at to) i 0)
changed up at to P h here others i b =
    let size = length-set up at to in
    elim (cases_eq i at) [
      | inl e ↦ subst (λ (k : ℕ). P k (get_or (set up at to) k 0)) (sym e) (subst (λ (k : ℕ). P at k) (sym (get_or-set_same up at to 0 h)) here)
      | inr ne ↦ subst (λ (k : ℕ). P i k) (sym (get_or-set_other up at i to 0 ne)) (others i ne (omega arith))
    ]

follows_other : (up : List ℕ) (at to : ℕ) (s : ℕ → Bool) → Follows (set up at to) s → (i : ℕ) → (i ≡ at → ⊥) → i < length up → s (get_or up i 0) ≡ s i
follows_other up at to s f i ne h =
    let size = length-set up at to in
    subst (λ (k : ℕ). s k ≡ s i) (get_or-set_other up at i to 0 ne) (f.both i (omega arith))

follows_here : (up : List ℕ) (at to : ℕ) (s : ℕ → Bool) → at < length up → Follows (set up at to) s → s to ≡ s at
follows_here up at to s h f =
    let size = length-set up at to in
    subst (λ (k : ℕ). s k ≡ s at) (get_or-set_same up at to 0 h) (f.both at (omega arith))

pub climbs_more : (old new : List ℕ) (from at : ℕ) → Climbs old new from at → at < length new → (get_or new at 0 ≡ at → ⊥)
    → Climbs old (set new at (get_or new (get_or new at 0) 0)) from (get_or new (get_or new at 0) 0)
climbs_more old new from at c h ne = record {
  points = record { before = changed new at two (λ i k. k ≤ i) h (omega arith) (λ i _ b. c.points.before i b) };
  size = length-set new at two ∙ c.size;
  above = let above = c.above in omega arith;
  lower = λ s f. record { both = changed new at two (λ i k. s k ≡ s i) h ((c.lower s f).both one one_in ∙ (c.lower s f).both at h) (λ i _ b. (c.lower s f).both i b) };
  higher = λ s f. c.higher s (still s f);
  one_tree = λ s f. follows_here new at two s h f ∙ c.one_tree s (still s f);
  roots = λ i e. let root = c.roots i e in get_or-set_other new at i two 0 (λ same. ne (subst (λ (k : ℕ). get_or new k 0 ≡ k) same root)) ∙ root;
}
  where
    one : ℕ
    one = get_or new at 0

    two : ℕ
    two = get_or new (get_or new at 0) 0

    one_below : get_or new at 0 < at
    one_below = let le = c.points.before at h in omega arith

    one_in : get_or new at 0 < length new
    one_in = omega arith

    two_below : get_or new (get_or new at 0) 0 ≤ get_or new at 0
    two_below = c.points.before (get_or new at 0) one_in

    still : (s : ℕ → Bool) → Follows (set new at two) s → Follows new s
    still s f = record {
      both = λ i b. elim (cases_eq i at) [
        | inl e ↦ subst (λ (k : ℕ). s (get_or new k 0) ≡ s k) (sym e) (sym (follows_other new at two s f (get_or new at 0) (λ same. omega arith) one_in) ∙ follows_here new at two s h f)
        | inr other ↦ follows_other new at two s f i other b
      ];
    }

-- ---- uniting
-- a root that points up to an earlier place
pub record IsPut (up : List ℕ) (high low : ℕ) : Type 0 where
  pub points : PointsUp (set up high low)
  pub there : (s : ℕ → Bool) → Follows up s → s low ≡ s high → Follows (set up high low) s
  pub back : (s : ℕ → Bool) → Follows (set up high low) s → Follows up s
  pub ends : (s : ℕ → Bool) → Follows (set up high low) s → s low ≡ s high

put : (up : List ℕ) (high low : ℕ) → PointsUp up → high < length up → get_or up high 0 ≡ high → low ≤ high → IsPut up high low
put up high low points h root le = record {
  points = record { before = changed up high low (λ i k. k ≤ i) h le (λ i _ b. points.before i b) };
  there = λ s f e. record { both = changed up high low (λ i k. s k ≡ s i) h e (λ i _ b. f.both i b) };
  back = λ s f. record {
    both = λ i b. elim (cases_eq i high) [
      | inl e ↦ subst (λ (k : ℕ). s (get_or up k 0) ≡ s k) (sym e) (ap s root)
      | inr other ↦ follows_other up high low s f i other b
    ];
  };
  ends = λ s f. follows_here up high low s h f;
}

module _ (old mid new : List ℕ) (link : Link) (one other : ℕ) (first : Climbs old mid link.one one) (second : Climbs mid new link.other other) where
  sides : (high low : ℕ) → IsPut new high low → ((s : ℕ → Bool) → s one ≡ s other → s low ≡ s high) → ((s : ℕ → Bool) → s low ≡ s high → s one ≡ s other) → Unites old (set new high low) link
  sides high low p turn back = record {
    points = p.points;
    size = length-set new high low ∙ second.size ∙ first.size;
    united = λ s f e.
        let follows_mid = first.lower s f in
        p.there s (second.lower s follows_mid) (turn s (first.one_tree s follows_mid ∙ e ∙ sym (second.one_tree s (second.lower s follows_mid))));
    before = λ s f. first.higher s (second.higher s (p.back s f));
    ends = λ s f.
        let follows_new = p.back s f in
        sym (first.one_tree s (second.higher s follows_new)) ∙ back s (p.ends s f) ∙ second.one_tree s follows_new;
  }

  pub unites_under_one : get_or new other 0 ≡ other → other < length new → one < other → Unites old (set new other one) link
  unites_under_one root h lt = sides other one (put new other one second.points h root (omega arith)) (λ s e. e) (λ s e. e)

  pub unites_under_other : get_or mid one 0 ≡ one → one < length new → other ≤ one → Unites old (set new one other) link
  unites_under_other root h le = sides one other (put new one other second.points h (second.roots one root) le) (λ s e. sym e) (λ s e. sym e)

-- ---- one link more
respects_take : (links : List Link) (k : ℕ) (d : Link) (s : ℕ → Bool) → k < length links → Respects (take (k + 1) links) s → Respects (take k links) s × (s (get_or links k d).one ≡ s (get_or links k d).other)
respects_take links k d s h r =
    (record { both = λ i e b. shorter i e b }, last)
  where
    size : (n : ℕ) → n ≤ length links → length (take n links) ≡ n
    size n le = length-take-le n links le

    shorter : (i : ℕ) (e : Link) → i < length (take k links) → s (get_or (take k links) i e).one ≡ s (get_or (take k links) i e).other
    shorter i e b =
        let n = size k (omega arith) in
        let n' = size (k + 1) (omega arith) in
        let here = r.both i e (omega arith) in
        subst (λ (l : Link). s l.one ≡ s l.other) (get_or-take (k + 1) links i e (omega arith) ∙ sym (get_or-take k links i e (omega arith))) here

    last : s (get_or links k d).one ≡ s (get_or links k d).other
    last =
        let n' = size (k + 1) (omega arith) in
        subst (λ (l : Link). s l.one ≡ s l.other) (get_or-take (k + 1) links k d (omega arith)) (r.both k d (omega arith))

pub trees_more : (links : List Link) (old new : List ℕ) (k : ℕ) (d : Link) → k < length links → AreTrees (take k links) old → Unites old new (get_or links k d) → AreTrees (take (k + 1) links) new
trees_more links old new k d h t u = record {
  points = u.points;
  followed = λ s r. let parts = respects_take links k d s h r in u.united s (t.followed s parts.0) parts.1;
  respected = λ s f. record { both = All-more (λ (l : Link). s l.one ≡ s l.other) links k d h ((t.respected s (u.before s f)).both) (u.ends s f) };
}

-- ---- labels
pub labels_none : (up : List ℕ) → AreLabels up [] 0
labels_none up = record {
  few = omega arith;
  below = λ i d h. absurd (omega arith);
  follow = λ i h. absurd (omega arith);
  one_tree = λ i j h. absurd (omega arith);
  used = λ c h. absurd (omega arith);
  in_order = λ i c h. absurd (omega arith);
}

-- what holds of each label and of one pushed
at_push : (labels : List ℕ) (x : ℕ) (P : ℕ → ℕ → Type 0) → ((i : ℕ) → i < length labels → P i (get_or labels i 0)) → P (length labels) x → (i : ℕ) → i < length (labels ++ x ∷ []) → P i (get_or (labels ++ x ∷ []) i 0)
at_push labels x P before here i h =
    let size = length_push labels x in
    elim (cases_eq i (length labels)) [
      | inl e ↦ subst (λ (k : ℕ). P k (get_or (labels ++ x ∷ []) k 0)) (sym e) (subst (λ (k : ℕ). P (length labels) k) (sym (get_or_push labels x 0 (length labels) refl)) here)
      | inr ne ↦ subst (λ (k : ℕ). P i k) (sym (get_or_append_left labels (x ∷ []) 0 i (omega arith))) (before i (omega arith))
    ]

pushed_before : (labels : List ℕ) (x i : ℕ) → i < length labels → get_or (labels ++ x ∷ []) i 0 ≡ get_or labels i 0
pushed_before labels x i h = get_or_append_left labels (x ∷ []) 0 i h

pushed_here : (labels : List ℕ) (x i : ℕ) → i ≡ length labels → get_or (labels ++ x ∷ []) i 0 ≡ x
pushed_here labels x i e = get_or_push labels x 0 i (sym e)

-- a root gets a label of its own
module _ (up labels : List ℕ) (count : ℕ) (l : AreLabels up labels count) (points : PointsUp up) (h : length labels < length up) where
  label_below : (i : ℕ) → i < length labels → get_or labels i 0 < count
  label_below i b = All-get_or (λ c. c < count) labels i 0 b l.below

  follow_before : (x i : ℕ) → i < length labels → get_or (labels ++ x ∷ []) (get_or up i 0) 0 ≡ get_or (labels ++ x ∷ []) i 0
  follow_before x i b =
      let le = points.before i (omega arith) in
      pushed_before labels x (get_or up i 0) (omega arith) ∙ l.follow i b ∙ sym (pushed_before labels x i b)

  used_before : (x c : ℕ) → c < count → (i : ℕ) × (i < length (labels ++ x ∷ [])) × (get_or (labels ++ x ∷ []) i 0 ≡ c)
  used_before x c b =
      let u = l.used c b in
      let size = length_push labels x in
      let in_labels : u.0 < length labels = u.1 in
      (u.0, omega arith, pushed_before labels x u.0 in_labels ∙ u.2)

  order_before : (x i c : ℕ) → i < length labels → c < get_or labels i 0 → (j : ℕ) × (j < i) × (get_or (labels ++ x ∷ []) j 0 ≡ c)
  order_before x i c b lt =
      let u = l.in_order i c b lt in
      let earlier : u.0 < i = u.1 in
      (u.0, earlier, pushed_before labels x u.0 (omega arith) ∙ u.2)

  tree_before : (x i j : ℕ) → i < length labels → j < length labels → get_or (labels ++ x ∷ []) i 0 ≡ get_or (labels ++ x ∷ []) j 0 → (s : ℕ → Bool) → Follows up s → s i ≡ s j
  tree_before x i j b b' e s f = l.one_tree i j b b' (sym (pushed_before labels x i b) ∙ e ∙ pushed_before labels x j b') s f

  -- a place of the longer list stands in the shorter one, or is its end
  place_cases : (x i : ℕ) → i < length (labels ++ x ∷ []) → (i < length labels) ⊎ (i ≡ length labels)
  place_cases x i b = let size = length_push labels x in elim (cases_eq i (length labels)) [ inl e ↦ inr e | inr ne ↦ inl (omega arith) ]

  module _ (root : get_or up (length labels) 0 ≡ length labels) where
    root_tree : (i j : ℕ) → (i < length labels) ⊎ (i ≡ length labels) → (j < length labels) ⊎ (j ≡ length labels) → get_or (labels ++ count ∷ []) i 0 ≡ get_or (labels ++ count ∷ []) j 0
        → (s : ℕ → Bool) → Follows up s → s i ≡ s j
    root_tree i j (inl b) (inl b') e s f = tree_before count i j b b' e s f
    root_tree i j (inl b) (inr b') e s f = let lt = label_below i b in let x = pushed_before labels count i b in let y = pushed_here labels count j b' in absurd (omega arith)
    root_tree i j (inr b) (inl b') e s f = let lt = label_below j b' in let x = pushed_before labels count j b' in let y = pushed_here labels count i b in absurd (omega arith)
    root_tree i j (inr b) (inr b') e s f = ap s (b ∙ sym b')

    root_order : (i c : ℕ) → (i < length labels) ⊎ (i ≡ length labels) → c < get_or (labels ++ count ∷ []) i 0 → (j : ℕ) × (j < i) × (get_or (labels ++ count ∷ []) j 0 ≡ c)
    root_order i c (inl b) lt = let x = pushed_before labels count i b in order_before count i c b (omega arith)
    root_order i c (inr b) lt =
        let x = pushed_here labels count i b in
        let u = l.used c (omega arith) in
        let in_labels : u.0 < length labels = u.1 in
        (u.0, omega arith, pushed_before labels count u.0 in_labels ∙ u.2)

    root_follow : (i : ℕ) → (i < length labels) ⊎ (i ≡ length labels) → get_or (labels ++ count ∷ []) (get_or up i 0) 0 ≡ get_or (labels ++ count ∷ []) i 0
    root_follow i (inl b) = follow_before count i b
    root_follow i (inr b) = ap (λ (k : ℕ). get_or (labels ++ count ∷ []) k 0) (ap (λ (k : ℕ). get_or up k 0) b ∙ root ∙ sym b)

    root_used : (c : ℕ) → c < count + 1 → (i : ℕ) × (i < length (labels ++ count ∷ [])) × (get_or (labels ++ count ∷ []) i 0 ≡ c)
    root_used c b = elim (cases_eq c count) [
      | inl e ↦ (length labels, (let size = length_push labels count in omega arith), pushed_here labels count (length labels) refl ∙ sym e)
      | inr ne ↦ used_before count c (omega arith)
    ]

    pub labels_root : AreLabels up (labels ++ count ∷ []) (count + 1)
    labels_root = record {
      few = let few = l.few in let size = length_push labels count in omega arith;
      below = All-push (λ c. c < count + 1) labels count (All-weaker (λ c. c < count) (λ c. c < count + 1) (λ c lt. omega arith) labels l.below) (omega arith);
      follow = λ i b. root_follow i (place_cases count i b);
      one_tree = λ i j b b' e s f. root_tree i j (place_cases count i b) (place_cases count j b') e s f;
      used = root_used;
      in_order = λ i c b lt. root_order i c (place_cases count i b) lt;
    }

  module _ (under : get_or up (length labels) 0 < length labels) where
    under_tree : (i j : ℕ) → (i < length labels) ⊎ (i ≡ length labels) → (j < length labels) ⊎ (j ≡ length labels)
        → get_or (labels ++ get_or labels (get_or up (length labels) 0) 0 ∷ []) i 0 ≡ get_or (labels ++ get_or labels (get_or up (length labels) 0) 0 ∷ []) j 0 → (s : ℕ → Bool) → Follows up s → s i ≡ s j
    under_tree i j (inl b) (inl b') e s f = tree_before _ i j b b' e s f
    under_tree i j (inl b) (inr b') e s f =
        l.one_tree i (get_or up (length labels) 0) b under (sym (pushed_before labels _ i b) ∙ e ∙ pushed_here labels _ j b') s f ∙ f.both (length labels) h ∙ ap s (sym b')
    under_tree i j (inr b) (inl b') e s f =
        ap s b ∙ sym (f.both (length labels) h) ∙ l.one_tree (get_or up (length labels) 0) j under b' (sym (pushed_here labels _ i b) ∙ e ∙ pushed_before labels _ j b') s f
    under_tree i j (inr b) (inr b') e s f = ap s (b ∙ sym b')

    under_order : (i c : ℕ) → (i < length labels) ⊎ (i ≡ length labels) → c < get_or (labels ++ get_or labels (get_or up (length labels) 0) 0 ∷ []) i 0
        → (j : ℕ) × (j < i) × (get_or (labels ++ get_or labels (get_or up (length labels) 0) 0 ∷ []) j 0 ≡ c)
    under_order i c (inl b) lt = order_before _ i c b (subst (λ (k : ℕ). c < k) (pushed_before labels _ i b) lt)
    under_order i c (inr b) lt =
        let u = order_before (get_or labels (get_or up (length labels) 0) 0) (get_or up (length labels) 0) c under (subst (λ (k : ℕ). c < k) (pushed_here labels _ i b) lt) in
        let earlier : u.0 < get_or up (length labels) 0 = u.1 in
        (u.0, omega arith, u.2)

    under_follow : (i : ℕ) → (i < length labels) ⊎ (i ≡ length labels) → get_or (labels ++ get_or labels (get_or up (length labels) 0) 0 ∷ []) (get_or up i 0) 0 ≡ get_or (labels ++ get_or labels (get_or up (length labels) 0) 0 ∷ []) i 0
    under_follow i (inl b) = follow_before _ i b
    under_follow i (inr b) =
        ap (λ (k : ℕ). get_or (labels ++ get_or labels (get_or up (length labels) 0) 0 ∷ []) (get_or up k 0) 0) b
        ∙ pushed_before labels _ (get_or up (length labels) 0) under ∙ sym (pushed_here labels _ i b)

    pub labels_under : AreLabels up (labels ++ get_or labels (get_or up (length labels) 0) 0 ∷ []) count
    labels_under = record {
      few = let few = l.few in let size = length_push labels (get_or labels (get_or up (length labels) 0) 0) in omega arith;
      below = All-push (λ c. c < count) labels (get_or labels (get_or up (length labels) 0) 0) l.below (label_below (get_or up (length labels) 0) under);
      follow = λ i b. under_follow i (place_cases _ i b);
      one_tree = λ i j b b' e s f. under_tree i j (place_cases _ i b) (place_cases _ j b') e s f;
      used = λ c b. used_before _ c b;
      in_order = λ i c b lt. under_order i c (place_cases _ i b) lt;
    }

pub labels_more_root : (up labels : List ℕ) (count k : ℕ) → LabelsFirst up labels count k → PointsUp up → k < length up → get_or up k 0 ≡ k → LabelsFirst up (labels ++ count ∷ []) (count + 1) (k + 1)
labels_more_root up labels count k l points h root =
    let size = l.so_far in
    record {
      good = labels_root up labels count l.good points (omega arith) (subst (λ (n : ℕ). get_or up n 0 ≡ n) (sym size) root);
      so_far = length_push labels count ∙ ap (λ (n : ℕ). n + 1) size;
    }

pub labels_more_under : (up labels : List ℕ) (count k x : ℕ) → LabelsFirst up labels count k → PointsUp up → k < length up → (get_or up k 0 ≡ k → ⊥) → x ≡ get_or labels (get_or up k 0) x → LabelsFirst up (labels ++ x ∷ []) count (k + 1)
labels_more_under up labels count k x l points h other read =
    let size = l.so_far in
    let le = points.before k h in
    let under : get_or up (length labels) 0 < length labels = subst (λ (n : ℕ). get_or up n 0 < n) (sym size) (omega arith) in
    let same : x ≡ get_or labels (get_or up (length labels) 0) 0 = get_or_read labels (get_or up k 0) x (omega arith) read 0 ∙ ap (λ (n : ℕ). get_or labels (get_or up n 0) 0) (sym size) in
    record {
      good = subst (λ (y : ℕ). AreLabels up (labels ++ y ∷ []) count) (sym same) (labels_under up labels count l.good points (omega arith) under);
      so_far = length_push labels x ∙ ap (λ (n : ℕ). n + 1) size;
    }
