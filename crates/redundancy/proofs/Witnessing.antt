-- A point that meets each kept row and not the target refutes all multipliers of kept rows at once.
use Rattle.std.proofs.Common.{◌-◌, ◌<◌, ℤ, pos, Bool, List, [], length, get_or, sym, subst, arith}
use Rattle.std.specs.Prelude.{Option, IfSome}
use Rattle.std.specs.List.{All}
use Rattle.std.proofs.lemmas.Option.{slice_get-get_or}
use Rattle.fb_types.specs.Domain.{IsPoint, Meets, MeetsCited, IsRow}
use Rattle.fb_types.specs.FollowsLaws.{Follows-implies}
use Rattle.fb_types.specs.declared.rows.Bounds.{Bounds}
use Rattle.fb_types.specs.declared.rows.Half.{Half}
use Rattle.fb_types.specs.declared.rows.Multipliers.{Multipliers}
use Rattle.multiplier_search.specs.Tries.{CitesKept}
use Rattle.redundancy.specs.Points.{MeetsKept, IsRefuted}

meets_cited : (rows : List Half) (kept : List Bool) (x : List ℤ) (by : Multipliers) → MeetsKept rows kept x → All (λ m. IsRow rows m.row) by.mults → CitesKept kept by.mults → MeetsCited rows by x
meets_cited rows kept x by h c g = record {
  each = λ i d l.
      let m = get_or by.mults i d in
      let r = c i d l in
      let inside : m.row - 1 < length rows = omega (arith, r.above, r.within) in
      subst (λ (o : Option Half). IfSome o (λ row. Meets row x)) (sym (slice_get-get_or rows (m.row - 1) (record { a = []; r = pos 0 }) inside)) (h.each (m.row - 1) inside (g i d l));
}

pub refuted : (target : Half) (rows : List Half) (kept : List Bool) (bounds : List Bounds) (x : List ℤ) → IsPoint bounds x → MeetsKept rows kept x → (Meets target x → ⊥) → IsRefuted target rows kept bounds
refuted target rows kept bounds x p h n = record {
  never = λ by k f. n (Follows-implies target rows by bounds x f p (meets_cited rows kept x by h f.cited k));
}
