-- What a number prints.
use Rattle.std.proofs.Common.{◌≡◌, ℕ, ◌-◌, false, [], ◌++◌, List, length, ap, ◌∙◌, arith, replicate}
use Rattle.std.specs.Fmt.{decimal, padded_integral, format_spec, char_count}
use Rattle.std.proofs.lemmas.List.{append-nil}
use Rattle.fb_decimal.specs.Printing.{padded_digits}

pub padded_six : (n : ℕ) → padded_integral (format_spec 32 0 4 6 18446744073709551615) false [] (decimal n) ≡ padded_digits 6 n
unfolding padded_integral char_count
padded_six n =
    let zeros : 6 - length (decimal n) - 0 - 0 ≡ 6 - length (decimal n) = omega arith in
    ap (λ (k : ℕ). replicate k 48 ++ (decimal n ++ [])) zeros ∙ ap (λ (ds : List ℕ). replicate (6 - length (decimal n)) 48 ++ ds) (append-nil (decimal n))
