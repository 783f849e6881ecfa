use Rattle.std.proofs.Common.{◌≡◌, length, [], ◌∷◌, sym, ap, ◌∙◌}
use Rattle.number_lists.specs.ListLaws.{numbers_same}
use Rattle.certificate_reader.proofs.Leaves.{spot_numbers}
use Rattle.certificate_reader.proofs.values.read_spot.Goals as goal

pub returns-in_default : goal.returns-in_default
returns-in_default c = record {
  spelled = λ x g e. (rw c.in_default.is at c.in_ok-read.ensures.spelled) (x.state ∷ x.zone ∷ x.block ∷ []) (spot_numbers x g) e;
}

pub returns-then-read-ne3 : goal.returns-then-read-ne3
returns-then-read-ne3 c =
    let w = rw c.in-Some.is at c.in_ok-read.ensures.spelled in
    record {
      spelled = λ x g e.
          let same : c.in-Some.read ≡ x.state ∷ x.zone ∷ x.block ∷ [] = numbers_same c.in-Some.read (x.state ∷ x.zone ∷ x.block ∷ []) w.0 (spot_numbers x g) (sym w.1 ∙ e) in
          let l : length c.in-Some.read ≡ 3 = ap length same in
          let m : length c.as_slice-read.result.now ≡ length c.in-Some.read = ap length c.as_slice-read.ensures.items in
          absurd (c.if-read-ne3.true (m ∙ l));
    }
