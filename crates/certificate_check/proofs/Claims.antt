-- States beside their proofs, as claims.
use Rattle.std.proofs.Common.{◌≡◌, ℕ, zero, suc, ◌+◌, ◌<◌, ◌≤◌, List, [], ◌∷◌, ◌++◌, length, map, take, get_or, min, All, refl, sym, ap, subst, ◌∙◌, arith}
use Rattle.std.specs.List.{AllZip, zip}
use Rattle.std.proofs.lemmas.List.{take_more, length-take-le, length-map, get_or-map, map-append}
use Rattle.std.proofs.lemmas.List.Elements.{All-cons, All-nil}
use Rattle.std.proofs.lemmas.Slice.Zip.{length-zip, get_or-zip, AllZip-long}
use Rattle.grid_state.specs.GridState.{GridState}
use Rattle.state_proofs.specs.declared.StateProof.{StateProof}
use Rattle.fb_certificate.specs.declared.types.Inputs.{Inputs}
use Rattle.fb_certificate.specs.Whole.{IsWhole}
use Rattle.fb_certificate.proofs.WholeLaws.{states_long, few_outages}
use Rattle.certificate_check.specs.Judged.{number_of, IsStateJudged, AreEachJudged}
use Rattle.certificate_check.specs.declared.judgement.Judgement.{Judgement}
use Rattle.certificate_check.specs.declared.states.Claim.{Claim}

-- ---- two lists side by side

module _ {X Y : Type 0} where
  zip_push : (xs : List X) (ys : List Y) (x : X) (y : Y) → length xs ≡ length ys
      → zip (xs ++ x ∷ []) (ys ++ y ∷ []) ≡ zip xs ys ++ (x, y) ∷ []
  zip_push [] [] x y e = refl
  zip_push [] (b ∷ ys) x y e = absurd (omega (arith, e))
  zip_push (a ∷ xs) [] x y e = absurd (omega (arith, e))
  zip_push (a ∷ xs) (b ∷ ys) x y e = ap (λ (ps : List (X × Y)). (a, b) ∷ ps) (zip_push xs ys x y (omega (arith, e)))

  pub zip_more : (xs : List X) (ys : List Y) (n : ℕ) (x : X) (y : Y) → n < length xs → n < length ys
      → x ≡ get_or xs n x → y ≡ get_or ys n y
      → zip (take (n + 1) xs) (take (n + 1) ys) ≡ zip (take n xs) (take n ys) ++ (x, y) ∷ []
  zip_more xs ys n x y l m ex ey =
      (λ t. zip (take_more xs n x l t) (take_more ys n y m t))
      ∙ ((λ t. zip (take n xs ++ sym ex t ∷ []) (take n ys ++ sym ey t ∷ []))
      ∙ zip_push (take n xs) (take n ys) x y
      (length-take-le n xs (omega (arith, l)) ∙ sym (length-take-le n ys (omega (arith, m)))))

  pub zip_taken : (xs : List X) (ys : List Y) (n : ℕ) → n ≡ min (length xs) (length ys)
      → zip (take n xs) (take n ys) ≡ zip xs ys
  zip_taken [] ys zero e = refl
  zip_taken [] ys (suc n) e = absurd (omega (arith, e))
  zip_taken (x ∷ xs) [] zero e = refl
  zip_taken (x ∷ xs) [] (suc n) e = absurd (omega (arith, e))
  zip_taken (x ∷ xs) (y ∷ ys) zero e = absurd (omega (arith, e))
  zip_taken (x ∷ xs) (y ∷ ys) (suc n) e =
      ap (λ (ps : List (X × Y)). (x, y) ∷ ps) (zip_taken xs ys n (omega (arith, e)))

  zipped_map : {Z : Type 0} (f : Z → X) (R : X → Y → Type 0) (zs : List Z) (ys : List Y)
      → AllZip (λ z y. R (f z) y) zs ys → AllZip R (map f zs) ys
  zipped_map f R [] [] h = tt
  zipped_map f R [] (y ∷ ys) h = absurd h
  zipped_map f R (z ∷ zs) [] h = absurd h
  zipped_map f R (z ∷ zs) (y ∷ ys) h = (h.0, zipped_map f R zs ys h.1)

  zipped_second : (R : X → Y → Type 0) (P : Y → Type 0) (xs : List X) (ys : List Y)
      → AllZip (λ x y. R x y × P y) xs ys → All P ys
  zipped_second R P [] [] h = All-nil P
  zipped_second R P [] (y ∷ ys) h = absurd h
  zipped_second R P (x ∷ xs) [] h = absurd h
  zipped_second R P (x ∷ xs) (y ∷ ys) h = All-cons P y ys h.0.1 (zipped_second R P xs ys h.1)

-- ---- claims

abbrev pub pair_of : Claim → GridState × StateProof
pair_of claim = (claim.state.now, claim.proof.now)

module _ (states : List GridState) (proofs : List StateProof) where
  pub claims_more : (claims after : List Claim) (claim : Claim) (n m : ℕ) → n < length states → n < length proofs
      → claim.state.now ≡ get_or states n claim.state.now → claim.proof.now ≡ get_or proofs n claim.proof.now
      → map pair_of claims ≡ zip (take n states) (take n proofs) → after ≡ claims ++ claim ∷ [] → m ≡ n + 1
      → map pair_of after ≡ zip (take m states) (take m proofs)
  claims_more claims after claim n m l k es ep so_far added next =
      ap (map pair_of) added
      ∙ (map-append pair_of claims (claim ∷ [])
      ∙ (ap (λ (ps : List (GridState × StateProof)). ps ++ pair_of claim ∷ []) so_far
      ∙ (sym (zip_more states proofs n claim.state.now claim.proof.now l k es ep)
      ∙ ap (λ (i : ℕ). zip (take i states) (take i proofs)) (sym next))))

  module _ (claims : List Claim) (same : map pair_of claims ≡ zip states proofs) where
    long : length claims ≡ min (length states) (length proofs)
    long = sym (length-map claims pair_of) ∙ (ap length same ∙ length-zip states proofs)

    pub few_claims : length claims ≤ length states
    few_claims = omega (arith, long)

    pub claim_state : (P : GridState → Type 0) (k : ℕ) (d : Claim)
        → ((e : GridState) → k < length states → P (get_or states k e)) → k < length claims
        → P (get_or claims k d).state.now
    claim_state P k d all l =
        let e = sym (get_or-map pair_of claims k d (pair_of d) l)
        ∙ (ap (λ (ps : List (GridState × StateProof)). get_or ps k (pair_of d)) same
        ∙ get_or-zip states proofs k (pair_of d) (omega (arith, long, l)) (omega (arith, long, l))) in
        subst P (sym (ap (λ (p : GridState × StateProof). p.0) e)) (all d.state.now (omega (arith, long, l)))

-- ---- the judgements of claims

module _ (inputs : Inputs) (proofs : List StateProof) (js : List Judgement) where
  pub claims_judged : (claims : List Claim) → map pair_of claims ≡ zip inputs.states proofs
      → AllZip (λ claim j. IsStateJudged inputs claim.state.now claim.proof.now j × (number_of j ≤ 303)) claims js
      → AreEachJudged inputs proofs js
  claims_judged claims same h =
      let R = λ (p : GridState × StateProof) (j : Judgement). IsStateJudged inputs p.0 p.1 j × (number_of j ≤ 303) in
      subst (λ (ps : List (GridState × StateProof)). AllZip R ps js) same (zipped_map pair_of R claims js h)

  module _ (each : AreEachJudged inputs proofs js) where
    pub small_numbers : All (λ j. number_of j ≤ 303) js
    small_numbers =
        zipped_second (λ (p : GridState × StateProof) j. IsStateJudged inputs p.0 p.1 j) (λ j. number_of j ≤ 303)
        (zip inputs.states proofs) js each

    pub few_judgements : IsWhole inputs → length js ≤ 513
    few_judgements whole =
        let R = λ (p : GridState × StateProof) (j : Judgement). IsStateJudged inputs p.0 p.1 j × (number_of j ≤ 303) in
        let many = AllZip-long R (zip inputs.states proofs) js each in
        let pairs = length-zip inputs.states proofs in
        let states = states_long inputs whole in
        let few = few_outages inputs whole in
        omega (arith, many, pairs, states, few)
