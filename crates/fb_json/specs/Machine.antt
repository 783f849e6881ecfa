-- Marking byte by byte. Nobody need believe this: it is tied to the marked bytes of a document by a lemma.
use Rattle.std.specs.Prelude.{ℕ, ◌==◌, List, [], ◌∷◌, ◌++◌, if◌then◌else◌}
use Rattle.fb_json.specs.Marking.{quote, backslash, text_mark, number_mark, no_number_mark, is_of_run, begins_run}
use Rattle.fb_json.specs.Scan.{is_number}

-- what a run becomes
abbrev pub spelled : List ℕ → List ℕ
spelled run = if is_number run then quote ∷ number_mark ∷ run ++ quote ∷ [] else no_number_mark ∷ []

-- what the bytes become outside strings, in a string, behind a backslash there, and in a run of which so much stood before
abbrev mutual
  pub outside : List ℕ → List ℕ
  outside [] = []
  outside (c ∷ cs) = if begins_run c then in_run (c ∷ []) cs else (if c == quote then quote ∷ text_mark ∷ in_text cs else c ∷ outside cs)

  pub in_text : List ℕ → List ℕ
  in_text [] = []
  in_text (c ∷ cs) = if c == quote then c ∷ outside cs else (if c == backslash then c ∷ escaped cs else c ∷ in_text cs)

  pub escaped : List ℕ → List ℕ
  escaped [] = []
  escaped (c ∷ cs) = c ∷ in_text cs

  pub in_run : List ℕ → List ℕ → List ℕ
  in_run run [] = spelled run
  in_run run (c ∷ cs) = if is_of_run c then in_run (run ++ c ∷ []) cs else spelled run ++ (if c == quote then quote ∷ text_mark ∷ in_text cs else c ∷ outside cs)
