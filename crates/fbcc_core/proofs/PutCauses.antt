-- What the steps come to is the cause of the answer.
use Rattle.std.proofs.Common.{◌≡◌, ◌⊎◌, ℕ, List, inl, inr, refl}
use Rattle.std.specs.Prelude.{Option, Some, Ok, Err}
use Rattle.fbcc_core.specs.Causes.{Comes, IsCaused, IsUntouched, Took, TookPrefix}
use Rattle.fbcc_core.specs.Seen.{ShelfSeen, SinkSeen}
use Rattle.fbcc_core.specs.declared.answer.Fault.{Fault}
use Rattle.fbcc_core.specs.declared.answer.Fault.TheVariants.{WriteFault}
use Rattle.fbcc_core.specs.declared.work.Work.{Work}

-- work that is done, and put or not
pub put_caused : (words : List (List ℕ)) (shelf : ShelfSeen) (out : SinkSeen) (answer : Option Fault) (work : Work) → Comes words shelf (Ok work)
    → ((answer ≡ work.verdict) × Took out work.text) ⊎ ((answer ≡ Some WriteFault) × TookPrefix out work.text) → IsCaused words shelf out answer
put_caused words shelf out answer work comes (inl put) = inr (inl (record { work = work; is = put.0; comes = comes; put = put.1 }))
put_caused words shelf out answer work comes (inr failed) = inr (inr (inr (inl (record { is = failed.0; work = work; comes = comes; put = failed.1 }))))

-- a step that refuses
pub refusal_caused : (words : List (List ℕ)) (shelf : ShelfSeen) (out : SinkSeen) (fault : Fault) → Comes words shelf (Err fault) → IsUntouched out
    → IsCaused words shelf out (Some fault)
refusal_caused words shelf out fault comes untouched = inr (inr (inl (record { fault = fault; is = refl; comes = comes; put = untouched })))
