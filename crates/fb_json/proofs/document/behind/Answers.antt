use Rattle.std.proofs.lemmas.Str.Pattern.{strip_prefix_char}
use Rattle.fb_json.proofs.Listed.{no_front}
use Rattle.fb_json.proofs.document.behind.Goals as goal

pub returns-in-None : goal.returns-in-None
returns-in-None c =
    let h = strip_prefix_char c.args.mark c.args.text.now c.strip_prefix.result c.strip_prefix.ensures.cases c.requires in
    no_front c.args.mark c.args.text.now (rw c.in-None.is at h)
