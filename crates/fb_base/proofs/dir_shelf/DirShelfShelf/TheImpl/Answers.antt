use Rattle.std.proofs.Common.{rules, refl}
use Rattle.std.proofs.lemmas.Bool.{false≢true}
use Rattle.std.proofs.lemmas.Result.{IfOk-weaker}
use Rattle.fb_base.proofs.dir_shelf.DirShelfShelf.TheImpl.Goals as goal

-- a shelf that tells nothing promises nothing of what is told
pub fetch-tells : goal.fetch-tells
fetch-tells g c = record {
  still_tells = refl;
  still_held = refl;
  never_falls = search rules;
  bytes = IfOk-weaker c.result _ _ (λ _ _ told. absurd (false≢true told)) c.ensures.within;
  within = search rules;
  given = λ told. absurd (false≢true told);
  failed = search rules;
  missing = λ told. absurd (false≢true told);
  failed_name = λ _ told. absurd (false≢true told);
  other_name = λ _. refl;
  limit_told = search rules;
  too_long = λ _ told. absurd (false≢true told);
  longer = λ told. absurd (false≢true told);
}
