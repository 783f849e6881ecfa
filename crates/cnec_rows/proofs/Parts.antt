-- The numbers of a row, part by part, as the code puts them together.
use Rattle.std.proofs.Common.{◌≡◌, ℕ, ℤ, List, sym, ap, ap₂, subst, ◌∙◌}
use Rattle.security.specs.Margins.{ElementNumbers, numbers_of}
use Rattle.fb_types.specs.declared.rows.Bounds.{Bounds}
use Rattle.ram_formulas.specs.MarginSpans.{margin_at, HoldsMargin}
use Rattle.domain_rows.specs.Brackets.{Brackets}
use Rattle.cnec_selection.specs.SpreadSpans.{spread_low, spread_high}
use Rattle.cnec_selection.specs.declared.Class.{Class}
use Rattle.cnec_rows.specs.declared.types.RowSpans.{RowSpans}
use Rattle.cnec_rows.specs.declared.types.RowProof.{RowProof}
use Rattle.cnec_rows.specs.RowNumbers.{ram_span, spread_span}

pub spans_same : (fref a b c d e u v w x y : ℤ × ℤ) → a ≡ u → b ≡ v → c ≡ w → d ≡ x → e ≡ y
    → ◌≡◌ {A = RowSpans} (record { fref = fref; f0core = a; f0all = b; fuaf = c; ram = d; spread = e }) (record { fref = fref; f0core = u; f0all = v; fuaf = w; ram = x; spread = y })
spans_same fref a b c d e u v w x y p q r s t = cc

pub ram_same : (known stated : ElementNumbers) (f0core fuaf a b ram : ℤ × ℤ) → known ≡ stated → f0core ≡ a → fuaf ≡ b → ram.0 ≡ margin_at known f0core.1 fuaf.1 → ram.1 ≡ margin_at known f0core.0 fuaf.0 → ram ≡ ram_span stated a b
ram_same known stated f0core fuaf a b ram e p q low high =
    ap₂ (λ u v. (u, v)) (low ∙ ap (λ x. margin_at x f0core.1 fuaf.1) e ∙ ap₂ (λ (u v : ℤ × ℤ). margin_at stated u.1 v.1) p q) (high ∙ ap (λ x. margin_at x f0core.0 fuaf.0) e ∙ ap₂ (λ (u v : ℤ × ℤ). margin_at stated u.0 v.0) p q)

pub spread_same : (core of : List (ℤ × ℤ)) (spread : ℤ × ℤ) → core ≡ of → spread.0 ≡ spread_low core → spread.1 ≡ spread_high core → spread ≡ spread_span of
spread_same core of spread p low high = ap₂ (λ u v. (u, v)) (low ∙ ap spread_low p) (high ∙ ap spread_high p)

pub proof_same : (class known : Class) (a b : List ℤ) (r_in r_out s_in s_out : ℤ) → class ≡ known → a ≡ b → r_in ≡ s_in → r_out ≡ s_out
    → ◌≡◌ {A = RowProof} (record { class = class; a = a; r_in = r_in; r_out = r_out }) (record { class = known; a = b; r_in = s_in; r_out = s_out })
proof_same class known a b r_in r_out s_in s_out p q r s = cc

-- ---- what is stated of the element

pub stated_same : (limit margin cva iva l m v w : ℤ) (ramr : ℕ) → l ≡ limit → m ≡ margin → v ≡ cva → w ≡ iva → numbers_of l m ramr v w ≡ numbers_of limit margin ramr cva iva
stated_same limit margin cva iva l m v w ramr p q r s = cc

pub margin_same : (known stated : ElementNumbers) (f0core fuaf ram : ℤ × ℤ) → known ≡ stated → HoldsMargin known f0core fuaf ram → HoldsMargin stated f0core fuaf ram
margin_same known stated f0core fuaf ram e h = subst (λ (x : ElementNumbers). HoldsMargin x f0core fuaf ram) e h

pub bracketed_same : (core : List (ℤ × ℤ)) (ram : ℤ × ℤ) (bounds : List Bounds) (a b : List ℤ) (r_in r_out s_in s_out : ℤ) → b ≡ a → s_in ≡ r_in → s_out ≡ r_out → Brackets core ram bounds a r_in r_out → Brackets core ram bounds b s_in s_out
bracketed_same core ram bounds a b r_in r_out s_in s_out p q r h =
    subst (λ v. Brackets core ram bounds v s_in s_out) (sym p) (subst (λ v. Brackets core ram bounds a v s_out) (sym q) (subst (λ v. Brackets core ram bounds a r_in v) (sym r) h))
