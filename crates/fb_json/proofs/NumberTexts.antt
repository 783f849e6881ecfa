-- A text that is a number alone is read as that number.
use Rattle.std.proofs.Common.{◌≡◌, ℕ, List, [], ◌∷◌, Option, Some, None, option_map, refl, sym, ap, ◌∙◌, append-nil}
use Rattle.json.specs.Token.{Token}
use Rattle.json.specs.Lex.{tokens}
use Rattle.json.specs.Print.{IsNumber, ArePrintable, print, print_from}
use Rattle.json.specs.Json.{value}
use Rattle.json.proofs.Grammar.{value_is}
use Rattle.json.proofs.Printed.Tokens.{tokens-print}
use Rattle.serde_json.specs.Data.{Data, Num, number}
use Rattle.serde_json.specs.Read.{number_of, read}
use Rattle.fb_json.proofs.Turns.{whole}

printed : (s : List ℕ) → print (Token.number s ∷ []) ≡ s
unfolding print_from
printed s = append-nil s

prints : (s : List ℕ) → IsNumber s → ArePrintable (Token.number s ∷ [])
unfolding ArePrintable
prints s h = (h, tt)

pub number_read : (s : List ℕ) → IsNumber s → read s ≡ option_map number (number_of s)
number_read s h =
    let one : tokens s ≡ Token.number s ∷ [] = ap tokens (sym (printed s)) ∙ tokens-print (Token.number s ∷ []) (prints s h) in
    ap (λ ts. whole (value 127 ts)) one ∙ ap whole (value_is 127 (Token.number s ∷ []))

some_number : (o : Option Num) (d : Data) → option_map number o ≡ Some d → (n : Num) × (o ≡ Some n)
some_number None d e = absurd cc
some_number (Some n) d e = (n, refl)

pub is_number_of : (s : List ℕ) (d : Data) → IsNumber s → read s ≡ Some d → (n : Num) × (number_of s ≡ Some n)
is_number_of s d h e = some_number (number_of s) d (sym (number_read s h) ∙ e)

no_number : (o : Option Num) → option_map number o ≡ None → o ≡ None
no_number None e = refl
no_number (Some n) e = absurd cc

pub is_no_number_of : (s : List ℕ) → IsNumber s → read s ≡ None → number_of s ≡ None
is_no_number_of s h e = no_number (number_of s) (sym (number_read s h) ∙ e)
