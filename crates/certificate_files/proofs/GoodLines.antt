-- Lines are in the ranges of the text: those of states, of rows and of cites whose numbers are small.
use Rattle.std.proofs.Common.{◌≡◌, ℕ, ◌+◌, ◌*◌, ◌^◌, ◌<◌, ◌≤◌, ℤ, pos, ◌+ℤ◌, ◌≤ℤ◌, nat_abs, List, [], ◌∷◌, length, map, get_or, refl, subst, arith, FitsSigned}
use Rattle.std.specs.Prelude.{Option, Some, None, IfSome, IsUtf8, slice_get}
use Rattle.std.specs.Int.{w128}
use Rattle.std.specs.Option.{option_map_or}
use Rattle.std.specs.List.{All, flat_map, enumerate_from, zip}
use Rattle.std.proofs.lemmas.Int.{ints, fits_signed_from_abs}
use Rattle.std.proofs.lemmas.List.{length-map}
use Rattle.std.proofs.lemmas.List.Elements.{All-head, All-tail, All-cons, All-nil, All-append, All-map, All-weaker, All-get_or}
use Rattle.std.proofs.lemmas.Option.{slice_get_within, get_or_from_slice_get}
use Rattle.std.proofs.lemmas.Str.{IsUtf8-nil}
use Rattle.whole_laws.specs.Sums.{IsWithin, sum_over}
use Rattle.whole_laws.specs.SumLaws.{sum_over-nonnegative}
use Rattle.fb_types.specs.Domain.{Follows, IsRow}
use Rattle.fb_types.specs.declared.crac.Contingency.{Contingency}
use Rattle.fb_types.specs.declared.keys.Block.{Block}
use Rattle.fb_types.specs.declared.keys.Column.{Column}
use Rattle.fb_types.specs.declared.rows.Angles.{Angles}
use Rattle.fb_types.specs.declared.rows.Bounds.{Bounds}
use Rattle.fb_types.specs.declared.rows.Mult.{Mult}
use Rattle.state_proofs.specs.declared.StateProof.{StateProof}
use Rattle.cnec_rows.specs.declared.types.RowProof.{RowProof}
use Rattle.row_gaps.specs.ProofRanges.{IsColumnInRange, IsProofInRange}
use Rattle.row_gaps.specs.RowRanges.{IsInRowRange}
use Rattle.domain_report.specs.DomainTexts.{contingency_id}
use Rattle.fb_certificate.specs.Lists.{ListKind, IsCite}
use Rattle.fb_certificate.specs.declared.types.Cite.{Cite}
use Rattle.row_removal.proofs.Listing.{listed_row, numbered_within}
use Rattle.certificate_text.specs.CertificateTexts.{zone_places, line_of_column, lines_of_state, line_of_row}
use Rattle.certificate_text.specs.Lines.{Place, state_line, barrier_line, row_line, IsGoodColumn, IsGoodCite, IsGood}

-- ---- Numbers

fits_small : (n : ℕ) → n < 2 ^ 32 → FitsSigned w128 (pos n)
fits_small n h = omega (arith, ints)

fits_barrier : (z : ℤ) → IsWithin (6 * 10 ^ 14) z → FitsSigned w128 z
fits_barrier z h = omega (arith, ints, h.low, h.high)

fits_angle : (z : ℤ) → nat_abs z ≤ 2 ^ 121 → FitsSigned w128 z
fits_angle z h = fits_signed_from_abs w128 z (omega (arith, h))

fits_balance : (z : ℤ) → IsWithin (10 ^ 24) z → FitsSigned w128 z
fits_balance z h = omega (arith, ints, h.low, h.high)

fits_multiplier : (z t : ℤ) → pos 0 ≤ℤ z → z ≤ℤ t → t ≤ℤ pos (10 ^ 12) → FitsSigned w128 z
fits_multiplier z t low high few = omega (arith, ints)

-- ---- The places of blocks

pub record IsSmallPlace (place : ℕ × ℕ) : Type 0 where
  pub zone : place.0 < 2 ^ 32
  pub block : place.1 < 2 ^ 32

blocks_small : (zone n : ℕ) (blocks : List Block) → zone < 2 ^ 32 → n + length blocks < 2 ^ 32
    → All IsSmallPlace (map (λ block. (zone, block.0)) (enumerate_from n blocks))
blocks_small zone n [] small few = All-nil IsSmallPlace
blocks_small zone n (b ∷ blocks) small few =
    All-cons IsSmallPlace (zone, n) (map (λ block. (zone, block.0)) (enumerate_from (n + 1) blocks))
    (record { zone = small; block = omega (arith, few) }) (blocks_small zone (n + 1) blocks small (omega (arith, few)))

pub places_small : (n : ℕ) (columns : List Column) → n + length columns < 2 ^ 31
    → All (λ c. length c.blocks ≤ 4) columns → All IsSmallPlace (flat_map zone_places (enumerate_from n columns))
places_small n [] few short = All-nil IsSmallPlace
places_small n (c ∷ columns) few short =
    let here = All-head (λ (c : Column). length c.blocks ≤ 4) c columns short in
    All-append IsSmallPlace (zone_places (n, c)) (flat_map zone_places (enumerate_from (n + 1) columns))
    (blocks_small n 1 c.blocks (omega (arith, few)) (omega (arith, here)))
    (places_small (n + 1) columns (omega (arith, few)) (All-tail (λ (c : Column). length c.blocks ≤ 4) c columns short))

-- ---- The ids of states

id_or_empty : (o : Option Contingency) → ((c : Contingency) → o ≡ Some c → IsUtf8 c.id)
    → IsUtf8 (option_map_or (λ c. c.id) o [])
id_or_empty None h = IsUtf8-nil
id_or_empty (Some c) h = h c refl

id_is_text : (contingencies : List Contingency) → All (λ c. IsUtf8 c.id) contingencies → (k : ℕ)
    → IsUtf8 (contingency_id contingencies (Some k))
id_is_text contingencies h k = id_or_empty (slice_get contingencies k) (λ c e.
    subst (λ (x : Contingency). IsUtf8 x.id) (get_or_from_slice_get contingencies k c c e)
    (All-get_or (λ (x : Contingency). IsUtf8 x.id) contingencies k c (slice_get_within contingencies k c e) h))

pub ids_are_texts : (contingencies : List Contingency) (outages : List ℕ) → All (λ c. IsUtf8 c.id) contingencies
    → All IsUtf8 ([] ∷ map (λ k. contingency_id contingencies (Some k)) outages)
ids_are_texts contingencies outages h =
    All-cons IsUtf8 [] (map (λ k. contingency_id contingencies (Some k)) outages) IsUtf8-nil
    (All-map IsUtf8 (λ k. contingency_id contingencies (Some k)) outages
    (λ i d l. id_is_text contingencies h (get_or outages i d)))

-- ---- States

pub record IsShortProof (proof : StateProof) : Type 0 where
  pub classes : ℕ
  pub count : ℕ
  pub range : IsProofInRange classes count proof

good_column : (classes : ℕ) (place : Place) (x : Angles) → 0 < classes → IsColumnInRange classes x
    → FitsSigned w128 place.state → FitsSigned w128 place.zone → FitsSigned w128 place.block → IsGoodColumn place x
good_column classes place x some range state zone block = record {
  state = state;
  zone = zone;
  block = block;
  kappa = range.kappa;
  w = record {
    some = let long = range.each_class in omega (arith, long, some);
    fit = All-weaker (λ z. nat_abs z ≤ 2 ^ 121) (FitsSigned w128) fits_angle x.w range.numbers;
  };
}

good_columns : (classes k : ℕ) (places : List (ℕ × ℕ)) (xs : List Angles) → 0 < classes → k < 2 ^ 32
    → All IsSmallPlace places → All (IsColumnInRange classes) xs → All IsGood (map (line_of_column k) (zip places xs))
good_columns classes k [] xs some small fits range = All-nil IsGood
good_columns classes k (p ∷ places) [] some small fits range = All-nil IsGood
good_columns classes k (p ∷ places) (x ∷ xs) some small fits range =
    let here = All-head IsSmallPlace p places fits in
    All-cons IsGood (line_of_column k (p, x)) (map (line_of_column k) (zip places xs))
    (good_column classes (record { state = pos k; zone = pos p.0; block = pos p.1 }) x some
    (All-head (IsColumnInRange classes) x xs range) (fits_small k small)
    (fits_small p.0 here.zone) (fits_small p.1 here.block))
    (good_columns classes k places xs some small (All-tail IsSmallPlace p places fits)
    (All-tail (IsColumnInRange classes) x xs range))

good_state : (places : List (ℕ × ℕ)) (k : ℕ) (id : List ℕ) (proof : StateProof) → All IsSmallPlace places → k < 2 ^ 32
    → IsUtf8 id → IsShortProof proof → All IsGood (lines_of_state places ((k, id), proof))
good_state places k id proof fits small text short =
    let range = short.range in
    let columns = map (line_of_column k) (zip places proof.blocks) in
    let reference = line_of_column k ((0, 0), proof.reference) in
    All-cons IsGood (state_line (pos k) id) (barrier_line (pos k) proof.barrier ∷ reference ∷ columns)
    (fits_small k small, text)
    (All-cons IsGood (barrier_line (pos k) proof.barrier) (reference ∷ columns) (
      fits_small k small,
      record {
        some = let long = range.each_class in let some = range.some in omega (arith, long, some);
        fit = All-weaker (IsWithin (6 * 10 ^ 14)) (FitsSigned w128) fits_barrier proof.barrier range.barrier;
      },
    )
    (All-cons IsGood reference columns
    (good_column short.classes (record { state = pos k; zone = pos 0; block = pos 0 }) proof.reference range.some
    range.reference (fits_small k small) (fits_small 0 (omega arith)) (fits_small 0 (omega arith)))
    (good_columns short.classes k places proof.blocks range.some small fits range.blocks)))

pub good_states : (places : List (ℕ × ℕ)) (k : ℕ) (ids : List (List ℕ)) (proofs : List StateProof)
    → All IsSmallPlace places → k + length ids < 2 ^ 32 → All IsUtf8 ids → All IsShortProof proofs
    → All IsGood (flat_map (lines_of_state places) (zip (enumerate_from k ids) proofs))
good_states places k [] proofs fits few texts short = All-nil IsGood
good_states places k (id ∷ ids) [] fits few texts short = All-nil IsGood
good_states places k (id ∷ ids) (s ∷ proofs) fits few texts short =
    All-append IsGood (lines_of_state places ((k, id), s))
    (flat_map (lines_of_state places) (zip (enumerate_from (k + 1) ids) proofs))
    (good_state places k id s fits (omega (arith, few)) (All-head IsUtf8 id ids texts)
    (All-head IsShortProof s proofs short))
    (good_states places (k + 1) ids proofs fits (omega (arith, few)) (All-tail IsUtf8 id ids texts)
    (All-tail IsShortProof s proofs short))

-- ---- Rows

pub good_rows : (zones n : ℕ) (rows : List RowProof) → n + length rows < 2 ^ 32 → All (IsInRowRange zones) rows
    → All IsGood (map line_of_row (enumerate_from n rows))
good_rows zones n [] few range = All-nil IsGood
good_rows zones n (r ∷ rows) few range =
    let here = All-head (IsInRowRange zones) r rows range in
    All-cons IsGood (row_line (pos n) r) (map line_of_row (enumerate_from (n + 1) rows)) (
      fits_small n (omega (arith, few)),
      record {
        some = here.some;
        coefficients = here.coefficients;
        inner = here.inner;
        outer = here.outer;
      },
    )
    (good_rows zones (n + 1) rows (omega (arith, few)) (All-tail (IsInRowRange zones) r rows range))

-- ---- Cites

values_fit : (mults : List Mult) → All (λ m. pos 0 ≤ℤ m.value) mults → sum_over (λ m. m.value) mults ≤ℤ pos (10 ^ 12)
    → All (λ m. FitsSigned w128 m.value) mults
values_fit [] some few = All-nil (λ (m : Mult). FitsSigned w128 m.value)
values_fit (m ∷ mults) some few =
    let P = λ (m : Mult). pos 0 ≤ℤ m.value in
    let here = All-head P m mults some in
    let more = All-tail P m mults some in
    let rest = sum_over-nonnegative (λ (m : Mult). m.value) mults more in
    All-cons (λ (m : Mult). FitsSigned w128 m.value) m mults
    (fits_multiplier m.value (m.value +ℤ sum_over (λ (m : Mult). m.value) mults) here (omega (arith, ints, rest)) few)
    (values_fit mults more (omega (arith, ints, here, few)))

good_cite : (kind : ListKind) (bounds : List Bounds) (rows : List RowProof) (cites : List Cite) → length rows < 2 ^ 32
    → (cite : Cite) → IsCite kind bounds rows cites cite → IsGoodCite cite
good_cite kind bounds rows cites few cite is =
    let there = listed_row kind rows cite.row is.listed in
    let within = (numbered_within rows cite.row there.0 there.1).1 in
    let follows : Follows (kind.half there.0) (map kind.half rows) cite.by bounds =
    subst (λ (o : Option RowProof). IfSome o (λ row. Follows (kind.half row) (map kind.half rows) cite.by bounds))
    there.1 is.follows in
    record {
      row = omega (arith, within, few);
      mu = fits_balance cite.by.mu follows.balance;
      rows = All-weaker (λ m. IsRow (map kind.half rows) m.row) (λ m. m.row < 2 ^ 32)
          (λ m r. let high = r.within in let same = length-map rows kind.half in omega (arith, high, same, few))
          cite.by.mults follows.cited;
      values = values_fit cite.by.mults follows.nonnegative follows.total;
    }

pub good_cites : (kind : ListKind) (bounds : List Bounds) (rows : List RowProof) (cites : List Cite)
    → length rows < 2 ^ 32 → All (IsCite kind bounds rows cites) cites → All IsGoodCite cites
good_cites kind bounds rows cites few each =
    All-weaker (IsCite kind bounds rows cites) IsGoodCite (good_cite kind bounds rows cites few) cites each
