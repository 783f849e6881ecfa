-- The blocks of a zone as spans with their shares.
use Rattle.std.proofs.Common.{◌≡◌, ℕ, ◌^◌, ◌-◌, ◌<◌, ◌≤◌, true, List, [], ◌∷◌, length, map, get_or, All, ℤ, pos, negsuc, ◌+ℤ◌, ◌*ℤ◌, neg_ℤ, ◌≤ℤ◌, refl, sym, ap, ap₂, subst, ◌∙◌, arith, take_all}
use Rattle.std.specs.Int.{int_min, int_max}
use Rattle.std.specs.List.{AllZip, zip}
use Rattle.std.proofs.lemmas.Int.{clamps}
use Rattle.std.proofs.lemmas.List.{get_or-map, length-map}
use Rattle.std.proofs.lemmas.List.Elements.{All-head, All-tail, All-cons, All-nil}
use Rattle.std.proofs.lemmas.Slice.Zip.{get_or-zip}
use Rattle.whole_laws.specs.Quotients.{floor_of, ceil_of}
use Rattle.whole_laws.specs.Ring.{linear}
use Rattle.whole_laws.specs.Sums.{IsWithin, sum_over}
use Rattle.fb_span.specs.Ends.{EndsWithin}
use Rattle.fb_types.specs.declared.grid.Grid.{Grid}
use Rattle.fb_types.specs.declared.keys.Block.{Block}
use Rattle.fb_types.specs.declared.rows.Angles.{Angles}
use Rattle.grid_state.specs.GridState.{GridState, carries_at, IsSound}
use Rattle.grid_laplacian.specs.Ranges.{IsOfGrid}
use Rattle.grid_laplacian.specs.Enclosures.{IsBarrier, EnclosesColumn}
use Rattle.security.specs.Balances.{block_side}
use Rattle.security.specs.Flows.{NumberedBranch}
use Rattle.branch_spans.specs.FlowSpans.{flow_span_of, IsBranchOf}
use Rattle.zonal_factors.specs.FactorSpans.{trillion, block_span_of, zone_span_of, IsBlock}
use Rattle.zonal_factors.specs.SharedSpans.{Part, low_sum, high_sum, share_sum, shared_of, parts_of}
use Rattle.zonal_factors.proofs.Held.{clipped_ordered}
use Rattle.zonal_factors.proofs.Fits.{IsAt, Holds, zip_long, parts_end, sums_within}
use Rattle.zonal_factors.proofs.Zones.{zone_within}

abbrev part_of_block : GridState → NumberedBranch → List ℤ → Block × Angles → Part
part_of_block s c v z = (block_span_of s c v z.0 z.1, z.0.share)

sum_over-map : {X Y : Type 0} (f : Y → ℤ) (g : X → Y) (xs : List X) → sum_over f (map g xs) ≡ sum_over (λ x. f (g x)) xs
sum_over-map f g [] = refl
sum_over-map f g (x ∷ xs) = ap (λ z. f (g x) +ℤ z) (sum_over-map f g xs)

pub shares_are : (s : GridState) (c : NumberedBranch) (v : List ℤ) (blocks : List Block) (angles : List Angles) → length blocks ≡ length angles → share_sum (parts_of s c v (zip blocks angles)) ≡ sum_over (λ b. b.share) blocks
shares_are s c v [] angles e = refl
shares_are s c v (b ∷ bs) [] e = absurd (omega arith)
shares_are s c v (b ∷ bs) (a ∷ as') e = ap (λ z. b.share +ℤ z) (shares_are s c v bs as' (omega arith))

-- what the blocks share is the span of the zone
pub zone_is : (s : GridState) (c : NumberedBranch) (v : List ℤ) (blocks : List Block) (angles : List Angles) → length blocks ≡ length angles → sum_over (λ b. b.share) blocks ≡ pos 100_000_000
    → shared_of (parts_of s c v (zip blocks angles)) ≡ zone_span_of s c v (zip blocks angles)
zone_is s c v blocks angles e whole =
    let shares = shares_are s c v blocks angles e ∙ whole in
    let lows = sum_over-map (λ (z : Part). z.1 *ℤ z.0.0) (part_of_block s c v) (zip blocks angles) in
    let highs = sum_over-map (λ (z : Part). z.1 *ℤ z.0.1) (part_of_block s c v) (zip blocks angles) in
    ap₂ (λ x y. (x, y)) (ap₂ floor_of lows shares) (ap₂ ceil_of highs shares)

-- the part at a place is the block's
pub block_at : (s : GridState) (c : NumberedBranch) (v : List ℤ) (blocks : List Block) (angles : List Angles) (i : ℕ) (b : Block) (a : Angles) (span : ℤ × ℤ) (share : ℤ) → i < length blocks → length blocks ≡ length angles
    → b ≡ get_or blocks i b → a ≡ get_or angles i a → span ≡ block_span_of s c v b a → share ≡ b.share → IsAt (parts_of s c v (zip blocks angles)) i ((pos 0, pos 0), pos 0) (span, share)
block_at s c v blocks angles i b a span share l same eb ea es eh =
    let e = zip_long blocks angles same in
    let m = length-map (zip blocks angles) (part_of_block s c v) in
    record {
      within = omega (arith, e, m);
      is = get_or-map (part_of_block s c v) (zip blocks angles) i (b, a) ((pos 0, pos 0), pos 0) (omega (arith, e))
          ∙ ap (part_of_block s c v) (get_or-zip blocks angles i (b, a) l (omega arith) ∙ ap₂ (λ (x : Block) (y : Angles). (x, y)) (sym eb) (sym ea))
          ∙ ap₂ (λ (x : ℤ × ℤ) (y : ℤ). (x, y)) (sym es) (sym eh);
    }

pub blocks_end : (s : GridState) (c : NumberedBranch) (v : List ℤ) (blocks : List Block) (angles : List Angles) (i : ℕ) → length blocks ≡ length angles → length blocks ≤ i → length (parts_of s c v (zip blocks angles)) ≤ i
blocks_end s c v blocks angles i same l =
    let e = parts_end blocks angles i same l in
    let m = length-map (zip blocks angles) (part_of_block s c v) in
    omega (arith, e, m)

pub some_shares : (s : GridState) (c : NumberedBranch) (v : List ℤ) (blocks : List Block) (angles : List Angles) → All IsBlock blocks → All (λ (z : Part). pos 0 ≤ℤ z.1) (parts_of s c v (zip blocks angles))
some_shares s c v [] angles h = All-nil (λ (z : Part). pos 0 ≤ℤ z.1)
some_shares s c v (b ∷ bs) [] h = All-nil (λ (z : Part). pos 0 ≤ℤ z.1)
some_shares s c v (b ∷ bs) (a ∷ as') h =
    All-cons (λ (z : Part). pos 0 ≤ℤ z.1) (part_of_block s c v (b, a)) (parts_of s c v (zip bs as')) (All-head IsBlock b bs h).share (some_shares s c v bs as' (All-tail IsBlock b bs h))

clipped_within : (x y : ℤ) → int_max x (neg_ℤ trillion) ≤ℤ int_min y trillion → EndsWithin 1_000_000_000_000 (int_max x (neg_ℤ trillion), int_min y trillion)
clipped_within x y h = record {
  low = record { low = omega (arith, linear, clamps, h); high = omega (arith, linear, clamps, h) };
  high = record { low = omega (arith, linear, clamps, h); high = omega (arith, linear, clamps, h) };
}

-- what a zone's blocks are known to be
pub record Zone (grid : Grid) (s : GridState) (c : NumberedBranch) (v : List ℤ) (blocks : List Block) (angles : List Angles) : Type 0 where
  pub sound : IsSound s
  pub of : IsOfGrid grid s
  pub stands : IsBranchOf grid c
  pub carries : carries_at s c.number ≡ true
  pub barrier : IsBarrier s v
  pub each : All IsBlock blocks
  pub encloses : AllZip (λ b a. EnclosesColumn s (block_side s b) a) blocks angles

pub parts_within : (grid : Grid) (s : GridState) (c : NumberedBranch) (v : List ℤ) (blocks : List Block) (angles : List Angles) → Zone grid s c v blocks angles
    → All (λ (z : Part). EndsWithin 1_000_000_000_000 z.0) (parts_of s c v (zip blocks angles))
parts_within grid s c v [] angles h = All-nil (λ (z : Part). EndsWithin 1_000_000_000_000 z.0)
parts_within grid s c v (b ∷ bs) [] h = All-nil (λ (z : Part). EndsWithin 1_000_000_000_000 z.0)
parts_within grid s c v (b ∷ bs) (a ∷ as') h =
    All-cons (λ (z : Part). EndsWithin 1_000_000_000_000 z.0) (part_of_block s c v (b, a)) (parts_of s c v (zip bs as'))
    (clipped_within (floor_of (flow_span_of s c.branch v a).0 (pos 10 *ℤ b.total)) (ceil_of (flow_span_of s c.branch v a).1 (pos 10 *ℤ b.total)) (clipped_ordered grid s c h.sound h.of h.stands h.carries v b a h.barrier (All-head IsBlock b bs h.each) h.encloses.0))
    (parts_within grid s c v bs as' (record {
      sound = h.sound;
      of = h.of;
      stands = h.stands;
      carries = h.carries;
      barrier = h.barrier;
      each = All-tail IsBlock b bs h.each;
      encloses = h.encloses.1;
    }))

pub zone_in : (grid : Grid) (s : GridState) (c : NumberedBranch) (v : List ℤ) (blocks : List Block) (angles : List Angles) → Zone grid s c v blocks angles → length blocks ≡ length angles
    → sum_over (λ b. b.share) blocks ≡ pos 100_000_000 → EndsWithin 1_000_000_000_000 (zone_span_of s c v (zip blocks angles))
zone_in grid s c v blocks angles h same whole =
    let parts = parts_of s c v (zip blocks angles) in
    let shares = shares_are s c v blocks angles same ∙ whole in
    let sums = sums_within 1_000_000_000_000 100_000_000 parts (parts_within grid s c v blocks angles h) (some_shares s c v blocks angles h.each) shares (length parts) in
    let all = take_all (length parts) parts (omega arith) in
    subst (EndsWithin 1_000_000_000_000) (zone_is s c v blocks angles same whole)
    (rw shares (zone_within (low_sum parts) (high_sum parts) (subst (λ ps. IsWithin 100_000_000_000_000_000_000 (low_sum ps)) all sums.0) (subst (λ ps. IsWithin 100_000_000_000_000_000_000 (high_sum ps)) all sums.1)))

-- the types in which zones are summed hold every number on the way

pub narrow_holds : Holds 90_000_000_000 100_000_000 (negsuc (2 ^ 63 - 1)) (pos (2 ^ 63 - 1))
narrow_holds = record {
  low_end = omega (arith, linear);
  high_end = omega (arith, linear);
  low_share = omega (arith, linear);
  high_share = omega (arith, linear);
  low_product = omega (arith, linear);
  high_product = omega (arith, linear);
}

pub wide_holds : Holds 1_000_000_000_000 100_000_000 (negsuc (2 ^ 127 - 1)) (pos (2 ^ 127 - 1))
wide_holds = record {
  low_end = omega (arith, linear);
  high_end = omega (arith, linear);
  low_share = omega (arith, linear);
  high_share = omega (arith, linear);
  low_product = omega (arith, linear);
  high_product = omega (arith, linear);
}
