-- What follows of the cause of an answer: that it is told or becomes want of memory, and that no other is caused.
use Rattle.std.proofs.Common.{◌≡◌, ◌⊎◌, ℕ, List, ◌∷◌, inl, inr, refl, sym, ap, subst, ◌∙◌}
use Rattle.std.specs.Prelude.{Option, Some, None, Result, Ok, Err, IsTrue}
use Rattle.fb_certificate.specs.declared.types.Inputs.{Inputs}
use Rattle.rows_document.specs.declared.reader.RowsDocument.{RowsDocument}
use Rattle.fbcc_core.specs.Causes.{Comes, IsOutOfMemory, IsCaused, Refuses, Judges, Completes, IsVerdictTold, Verifies, IsUntouched, Took}
use Rattle.fbcc_core.specs.Commands.{IsYes, IsNo, IsAccepted, IsRejected, domain_inputs, domain_work, check_work, selftest_work, work_of}
use Rattle.fbcc_core.specs.Papers.{command_of}
use Rattle.fbcc_core.specs.Printed.{IsDomainPut, PrintsCapacity, IsCertificateAccepted, ChecksCapacity, IsSummaryPut, PrintsSummary}
use Rattle.fbcc_core.specs.Reading.{run_documents, certificate_read}
use Rattle.fbcc_core.specs.Seen.{ShelfSeen, SinkSeen, ShelfFailed}
use Rattle.fbcc_core.specs.Steps.{IsMemory}
use Rattle.fbcc_core.specs.Telling.{IsMade, IsKept}
use Rattle.fbcc_core.specs.Words.{Asks, Names, name_given}
use Rattle.fbcc_core.specs.declared.answer.Fault.{Fault}
use Rattle.fbcc_core.specs.declared.answer.Fault.TheVariants.{No, Usage, ReadFault, TooLong, GridFault, JsonFault, CracFault, KeyFault, SettingsFault, ReductionFault, NoSlack, SplitGrid, RangeExceeded, CertificateFault, WriteFault, Memory}
use Rattle.fbcc_core.specs.declared.documents.CertificateFile.{CertificateFile}
use Rattle.fbcc_core.specs.declared.documents.RunDocuments.{RunDocuments}
use Rattle.fbcc_core.specs.declared.paper.Paper.{Paper}
use Rattle.fbcc_core.specs.declared.paper.Paper.TheVariants.{Table, Evidence, Report}
use Rattle.fbcc_core.specs.declared.request.Command.{Command}
use Rattle.fbcc_core.specs.declared.request.Command.TheVariants as command
use Rattle.fbcc_core.specs.declared.work.Work.{Work}
use Rattle.fbcc_core.proofs.Agreement.{Agrees}
use Rattle.fbcc_core.proofs.Asking.{command_same}
use Rattle.fbcc_core.proofs.Chains.{past_documents, past_file}
use Rattle.fbcc_core.proofs.Checking.{told_of}
use Rattle.fbcc_core.proofs.OneAnswer.{JudgeSame, work_once, documents_once, inputs_once, certificate_once}

-- ---- The words ask for one command

steps_same : (words : List (List ℕ)) (shelf : ShelfSeen) (r : Result Work Fault) (c : Command) → Asks words c → (h : Comes words shelf r) → work_of (name_given words) shelf c r
steps_same words shelf r c asked h = subst (λ (x : Command). work_of (name_given words) shelf x r) (command_same words h.command c h.asked asked) h.steps

comes_once : (words : List (List ℕ)) (shelf : ShelfSeen) → IsTrue shelf.tells → ¬ ShelfFailed shelf → Agrees JudgeSame (Comes words shelf) (Comes words shelf)
comes_once words shelf told fine = record {
  both = λ v w s t. (work_once (name_given words) shelf told fine t.command).both v w (steps_same words shelf (Ok v) t.command t.asked s) t.steps;
  given = λ v g s t. (work_once (name_given words) shelf told fine t.command).given v g (steps_same words shelf (Ok v) t.command t.asked s) t.steps;
  refused = λ f w s t. (work_once (name_given words) shelf told fine t.command).refused f w (steps_same words shelf (Err f) t.command t.asked s) t.steps;
  neither = λ f g s t. (work_once (name_given words) shelf told fine t.command).neither f g (steps_same words shelf (Err f) t.command t.asked s) t.steps;
}

-- ---- Verdicts

-- a verdict is no fault or the answer no, and its line takes no memory
abbrev IsVerdict : Option Fault → Type 0
IsVerdict None = Unit {0}
IsVerdict (Some (No row reason)) = Unit {0}
IsVerdict (Some Usage) = ⊥
IsVerdict (Some (ReadFault d)) = ⊥
IsVerdict (Some (TooLong d limit)) = ⊥
IsVerdict (Some (GridFault line kind)) = ⊥
IsVerdict (Some (JsonFault d)) = ⊥
IsVerdict (Some (CracFault place kind)) = ⊥
IsVerdict (Some (KeyFault place kind)) = ⊥
IsVerdict (Some (SettingsFault place kind)) = ⊥
IsVerdict (Some (ReductionFault row kind)) = ⊥
IsVerdict (Some NoSlack) = ⊥
IsVerdict (Some (SplitGrid state node)) = ⊥
IsVerdict (Some (RangeExceeded state)) = ⊥
IsVerdict (Some (CertificateFault row)) = ⊥
IsVerdict (Some WriteFault) = ⊥
IsVerdict (Some (Memory e)) = ⊥

rows_verdict : (d : RowsDocument) (work : Work) → IsYes d work ⊎ IsNo d work → IsVerdict work.verdict
rows_verdict d work (inl y) = subst IsVerdict (sym y.verdict) tt
rows_verdict d work (inr n) = subst IsVerdict (sym n.verdict) tt

check_verdict : (inputs : Inputs) (file : CertificateFile) (work : Work) → IsAccepted inputs file work ⊎ IsRejected inputs file work → IsVerdict work.verdict
check_verdict inputs file work (inl a) = subst IsVerdict (sym a.verdict) tt
check_verdict inputs file work (inr r) = subst IsVerdict (sym r.verdict) tt

verdict_of : (names : Names) (shelf : ShelfSeen) (c : Command) (work : Work) → work_of names shelf c (Ok work) → IsVerdict work.verdict
verdict_of names shelf command.Rows work h = rows_verdict h.0 work h.2
verdict_of names shelf command.Net work h = subst IsVerdict (sym h.2.verdict) tt
verdict_of names shelf command.Domain work h = subst IsVerdict (sym h.2.verdict) tt
verdict_of names shelf command.Certify work h = subst IsVerdict (sym h.2.verdict) tt
verdict_of names shelf command.Check work h = check_verdict h.2.2.0 h.2.0 work h.2.2.2
verdict_of names shelf command.Report work h = subst IsVerdict (sym h.2.verdict) tt
verdict_of names shelf (command.Selftest case nodes) work h = subst IsVerdict (sym h.2.verdict) tt

-- a fault whose line takes memory is no verdict
made_apart : (fault : Fault) → IsMade fault → IsVerdict (Some fault) → ⊥
made_apart (No row reason) m v = m
made_apart Usage m v = m
made_apart (ReadFault d) m v = v
made_apart (TooLong d limit) m v = v
made_apart (GridFault line kind) m v = v
made_apart (JsonFault d) m v = v
made_apart (CracFault place kind) m v = v
made_apart (KeyFault place kind) m v = v
made_apart (SettingsFault place kind) m v = v
made_apart (ReductionFault row kind) m v = v
made_apart NoSlack m v = m
made_apart (SplitGrid state node) m v = v
made_apart (RangeExceeded state) m v = v
made_apart (CertificateFault row) m v = v
made_apart WriteFault m v = m
made_apart (Memory e) m v = m

some_same : (f g : Fault) → Some f ≡ Some g → f ≡ g
some_same f g e = cc

-- ---- What is kept of an answer when it is told

made_untouched : (words : List (List ℕ)) (shelf : ShelfSeen) (out : SinkSeen) (fault : Fault) → IsMade fault → IsCaused words shelf out (Some fault) → IsUntouched out
made_untouched words shelf out fault made (inl m) = m.put
made_untouched words shelf out fault made (inr (inl d)) = absurd (made_apart fault made (subst IsVerdict (sym d.is) (verdict_of (name_given words) shelf d.comes.command d.work d.comes.steps)))
made_untouched words shelf out fault made (inr (inr (inl r))) = r.put
made_untouched words shelf out fault made (inr (inr (inr (inl u)))) = absurd (subst IsMade (some_same fault WriteFault u.is) made)
made_untouched words shelf out fault made (inr (inr (inr (inr s)))) = s.put

pub kept_caused : (words : List (List ℕ)) (shelf : ShelfSeen) (out : SinkSeen) (answer told : Option Fault) → IsKept answer told → IsCaused words shelf out answer → IsCaused words shelf out told
kept_caused words shelf out None told k h = subst (IsCaused words shelf out) (sym k) h
kept_caused words shelf out (Some fault) None k h = absurd k
kept_caused words shelf out (Some fault) (Some told) (inl e) h = subst (λ (f : Fault). IsCaused words shelf out (Some f)) (sym e) h
kept_caused words shelf out (Some fault) (Some told) (inr m) h = inr (inr (inr (inr (record { is = m.1; put = made_untouched words shelf out fault m.0 h }))))

-- Usage stays Usage, and nothing else becomes it
no_memory : IsMemory Usage → ⊥
no_memory m = let e = m.1 in cc

kept_usage : (answer told : Option Fault) → IsKept answer told → answer ≡ Some Usage → told ≡ Some Usage
kept_usage None told k e = cc
kept_usage (Some fault) None k e = absurd k
kept_usage (Some fault) (Some told) (inl same) e = ap (λ (f : Fault). Some f) same ∙ e
kept_usage (Some fault) (Some told) (inr m) e = absurd (subst IsMade (some_same fault Usage e) m.0)

pub usage_kept : (answer told : Option Fault) → IsKept answer told → told ≡ Some Usage → answer ≡ Some Usage
usage_kept None told k e = sym k ∙ e
usage_kept (Some fault) None k e = absurd k
usage_kept (Some fault) (Some told) (inl same) e = ap (λ (f : Fault). Some f) (sym same) ∙ e
usage_kept (Some fault) (Some told) (inr m) e = absurd (no_memory (subst IsMemory (some_same told Usage e) m.1))

-- want of memory stays want of memory
memory_kept : (answer told : Option Fault) → IsKept answer told → IsOutOfMemory answer → IsOutOfMemory told
memory_kept None told k m = absurd m
memory_kept (Some fault) None k m = absurd k
memory_kept (Some fault) (Some told) (inl same) m = subst IsMemory (sym same) m
memory_kept (Some fault) (Some told) (inr n) m = n.1

pub misused_kept : (answer told : Option Fault) → IsKept answer told → (answer ≡ Some Usage) ⊎ IsOutOfMemory answer → (told ≡ Some Usage) ⊎ IsOutOfMemory told
misused_kept answer told k (inl e) = inl (kept_usage answer told k e)
misused_kept answer told k (inr m) = inr (memory_kept answer told k m)

-- ---- Each answer comes wherever it is caused

memory_answer : (answer : Option Fault) (fault : Fault) → answer ≡ Some fault → IsMemory fault → IsOutOfMemory answer
memory_answer answer fault e m = subst IsOutOfMemory (sym e) m

refused_so : (answer : Option Fault) (given fault : Fault) → answer ≡ Some given → (given ≡ fault) ⊎ (IsMemory given ⊎ IsMemory fault) → (answer ≡ Some fault) ⊎ (IsMemory fault ⊎ IsOutOfMemory answer)
refused_so answer given fault e (inl same) = inl (e ∙ ap (λ (f : Fault). Some f) same)
refused_so answer given fault e (inr (inl m)) = inr (inr (memory_answer answer given e m))
refused_so answer given fault e (inr (inr m)) = inr (inl m)

pub refuses : (words : List (List ℕ)) (shelf : ShelfSeen) (out : SinkSeen) (answer : Option Fault) → IsCaused words shelf out answer → Refuses words shelf answer
refuses words shelf out answer (inl m) fault comes told fine = absurd (m.refused (record { command = comes.command; asked = comes.asked }))
refuses words shelf out answer (inr (inl d)) fault comes told fine = inr (inl ((comes_once words shelf told fine).given d.work fault d.comes comes))
refuses words shelf out answer (inr (inr (inl r))) fault comes told fine = refused_so answer r.fault fault r.is ((comes_once words shelf told fine).neither r.fault fault r.comes comes)
refuses words shelf out answer (inr (inr (inr (inl u)))) fault comes told fine = inr (inl ((comes_once words shelf told fine).given u.work fault u.comes comes))
refuses words shelf out answer (inr (inr (inr (inr s)))) fault comes told fine = inr (inr s.is)

pub judges : (words : List (List ℕ)) (shelf : ShelfSeen) (out : SinkSeen) (answer : Option Fault) → IsCaused words shelf out answer → Judges words shelf out answer
judges words shelf out answer (inl m) work comes told fine put = absurd (m.refused (record { command = comes.command; asked = comes.asked }))
judges words shelf out answer (inr (inl d)) work comes told fine put = inl (d.is ∙ (comes_once words shelf told fine).both d.work work d.comes comes)
judges words shelf out answer (inr (inr (inl r))) work comes told fine put = inr (memory_answer answer r.fault r.is ((comes_once words shelf told fine).refused r.fault work r.comes comes))
judges words shelf out answer (inr (inr (inr (inl u)))) work comes told fine put = absurd (put u.put.0)
judges words shelf out answer (inr (inr (inr (inr s)))) work comes told fine put = inr s.is

-- the work of a command that prints a domain
paper_work : (paper : Paper) (names : Names) (shelf : ShelfSeen) (r : Result Work Fault) → work_of names shelf (command_of paper) r → domain_work paper names shelf r
paper_work Table names shelf r h = h
paper_work Evidence names shelf r h = h
paper_work Report names shelf r h = h

paper_steps : (paper : Paper) (words : List (List ℕ)) (shelf : ShelfSeen) (r : Result Work Fault) → Asks words (command_of paper) → Comes words shelf r → domain_work paper (name_given words) shelf r
paper_steps paper words shelf r asked comes = paper_work paper (name_given words) shelf r (steps_same words shelf r (command_of paper) asked comes)

-- where there are inputs, no step of a domain refuses
domain_refused : (paper : Paper) (names : Names) (shelf : ShelfSeen) → IsTrue shelf.tells → ¬ ShelfFailed shelf → (inputs : Inputs) → domain_inputs names shelf (Ok inputs) → (fault : Fault) → domain_work paper names shelf (Err fault)
    → IsMemory fault
domain_refused paper names shelf told fine inputs given fault (inl h) = (inputs_once names shelf told fine).given inputs fault given h
domain_refused paper names shelf told fine inputs given fault (inr h) = elim h.2 [ inl none ↦ absurd none | inr m ↦ m ]

pub completes : (words : List (List ℕ)) (shelf : ShelfSeen) (out : SinkSeen) (answer : Option Fault) → IsCaused words shelf out answer → Completes words shelf out answer
completes words shelf out answer (inl m) paper inputs asked given told fine put = absurd (m.refused (record { command = command_of paper; asked = asked }))
completes words shelf out answer (inr (inl d)) paper inputs asked given told fine put = inl (d.is ∙ (paper_steps paper words shelf (Ok d.work) asked d.comes).2.verdict)
completes words shelf out answer (inr (inr (inl r))) paper inputs asked given told fine put =
    inr (memory_answer answer r.fault r.is (domain_refused paper (name_given words) shelf told fine inputs given r.fault (paper_steps paper words shelf (Err r.fault) asked r.comes)))
completes words shelf out answer (inr (inr (inr (inl u)))) paper inputs asked given told fine put = absurd (put u.put.0)
completes words shelf out answer (inr (inr (inr (inr s)))) paper inputs asked given told fine put = inr s.is

-- ---- A domain that is printed

domain_put : (paper : Paper) (words : List (List ℕ)) (shelf : ShelfSeen) (out : SinkSeen) (work : Work) → domain_work paper (name_given words) shelf (Ok work) → Took out work.text → IsDomainPut paper words shelf out
domain_put paper words shelf out work h put = record {
  inputs = h.0;
  said = h.1;
  certificate = h.2.certificate;
  sound = h.2.sound;
  thin = h.2.thin;
  text = work.text;
  says = h.2.text;
  put = put;
}

pub prints_capacity : (words : List (List ℕ)) (shelf : ShelfSeen) (out : SinkSeen) (answer : Option Fault) → IsCaused words shelf out answer → PrintsCapacity words shelf out answer
prints_capacity words shelf out answer (inl m) paper asked none = absurd (m.refused (record { command = command_of paper; asked = asked }))
prints_capacity words shelf out answer (inr (inl d)) paper asked none = domain_put paper words shelf out d.work (paper_steps paper words shelf (Ok d.work) asked d.comes) d.put
prints_capacity words shelf out answer (inr (inr (inl r))) paper asked none = absurd (let e = r.is in cc)
prints_capacity words shelf out answer (inr (inr (inr (inl u)))) paper asked none = absurd (let e = u.is in cc)
prints_capacity words shelf out answer (inr (inr (inr (inr s)))) paper asked none = absurd (subst IsOutOfMemory none s.is)

-- ---- A certificate that is checked

check_steps : (words : List (List ℕ)) (shelf : ShelfSeen) (r : Result Work Fault) → Asks words command.Check → Comes words shelf r → check_work (name_given words) shelf r
check_steps words shelf r asked comes = steps_same words shelf r command.Check asked comes

module _ (names : Names) (shelf : ShelfSeen) (told : IsTrue shelf.tells) (fine : ¬ ShelfFailed shelf) (inputs : Inputs) (file : CertificateFile)
    (given : domain_inputs names shelf (Ok inputs)) (read : certificate_read names shelf (Ok file)) where
  -- what is told is of these inputs and this file
  told_same : (work : Work) → check_work names shelf (Ok work) → IsVerdictTold inputs file work.verdict
  told_same work h =
      let i = (inputs_once names shelf told fine).both h.2.2.0 inputs (h.0, h.1, h.2.2.1) given in
      let f = (certificate_once names shelf told fine).both h.2.0 file h.2.1 read in
      subst (λ (x : Inputs). IsVerdictTold x file work.verdict) i (subst (λ (x : CertificateFile). IsVerdictTold h.2.2.0 x work.verdict) f (told_of h.2.2.0 h.2.0 work h.2.2.2))

  -- where there are inputs and a certificate, no step of the check refuses
  past_file_refused : (d : RunDocuments) → run_documents names shelf (Ok d) → (other : CertificateFile) (fault : Fault) → past_file names shelf d other (Err fault) → IsMemory fault
  past_file_refused d r other fault (inl e) = (inputs_once names shelf told fine).given inputs fault given (inr (d, r, e))
  past_file_refused d r other fault (inr h) = elim h.2 [ inl none ↦ absurd none | inr m ↦ m ]

  past_documents_refused : (d : RunDocuments) → run_documents names shelf (Ok d) → (fault : Fault) → past_documents names shelf d (Err fault) → IsMemory fault
  past_documents_refused d r fault (inl e) = (certificate_once names shelf told fine).given file fault read e
  past_documents_refused d r fault (inr h) = past_file_refused d r h.0 fault h.2

  check_refused : (fault : Fault) → check_work names shelf (Err fault) → IsMemory fault
  check_refused fault (inl e) = (documents_once names shelf told fine).given given.0 fault given.1 e
  check_refused fault (inr h) = past_documents_refused h.0 h.1 fault h.2

pub verifies : (words : List (List ℕ)) (shelf : ShelfSeen) (out : SinkSeen) (answer : Option Fault) → IsCaused words shelf out answer → Verifies words shelf out answer
verifies words shelf out answer (inl m) inputs file asked given read told fine put = absurd (m.refused (record { command = command.Check; asked = asked }))
verifies words shelf out answer (inr (inl d)) inputs file asked given read told fine put =
    inl (subst (λ (a : Option Fault). IsVerdictTold inputs file a) (sym d.is)
    (told_same (name_given words) shelf told fine inputs file given read d.work (check_steps words shelf (Ok d.work) asked d.comes)))
verifies words shelf out answer (inr (inr (inl r))) inputs file asked given read told fine put =
    inr (memory_answer answer r.fault r.is (check_refused (name_given words) shelf told fine inputs file given read r.fault (check_steps words shelf (Err r.fault) asked r.comes)))
verifies words shelf out answer (inr (inr (inr (inl u)))) inputs file asked given read told fine put = absurd (put u.put.0)
verifies words shelf out answer (inr (inr (inr (inr s)))) inputs file asked given read told fine put = inr s.is

accepted_put : (words : List (List ℕ)) (shelf : ShelfSeen) (out : SinkSeen) (work : Work) → check_work (name_given words) shelf (Ok work) → work.verdict ≡ None → Took out work.text
    → IsCertificateAccepted words shelf out
accepted_put words shelf out work h none put = elim h.2.2.2 [
  | inl a ↦ record {
    inputs = h.2.2.0;
    said = (h.0, h.1, h.2.2.1);
    file = h.2.0;
    read = h.2.1;
    accepted = a.accepted;
    sound = a.sound;
    put = subst (λ (text : List ℕ). Took out text) a.text put;
  }
  | inr r ↦ absurd (let e = r.verdict in cc)
]

pub checks_capacity : (words : List (List ℕ)) (shelf : ShelfSeen) (out : SinkSeen) (answer : Option Fault) → IsCaused words shelf out answer → ChecksCapacity words shelf out answer
checks_capacity words shelf out answer (inl m) asked none = absurd (m.refused (record { command = command.Check; asked = asked }))
checks_capacity words shelf out answer (inr (inl d)) asked none = accepted_put words shelf out d.work (check_steps words shelf (Ok d.work) asked d.comes) (sym d.is ∙ none) d.put
checks_capacity words shelf out answer (inr (inr (inl r))) asked none = absurd (let e = r.is in cc)
checks_capacity words shelf out answer (inr (inr (inr (inl u)))) asked none = absurd (let e = u.is in cc)
checks_capacity words shelf out answer (inr (inr (inr (inr s)))) asked none = absurd (subst IsOutOfMemory none s.is)

-- ---- A generated case

summary_put : (number nodes : ℕ) (out : SinkSeen) (work : Work) → selftest_work number nodes (Ok work) → Took out work.text → IsSummaryPut number nodes out
summary_put number nodes out work h put = record {
  inputs = h.0;
  said = h.1;
  certificate = h.2.certificate;
  sound = h.2.sound;
  thin = h.2.thin;
  put = subst (λ (text : List ℕ). Took out text) h.2.text put;
}

pub prints_summary : (words : List (List ℕ)) (shelf : ShelfSeen) (out : SinkSeen) (answer : Option Fault) → IsCaused words shelf out answer → PrintsSummary words out answer
prints_summary words shelf out answer (inl m) number nodes asked none = absurd (m.refused (record { command = command.Selftest number nodes; asked = asked }))
prints_summary words shelf out answer (inr (inl d)) number nodes asked none =
    summary_put number nodes out d.work (steps_same words shelf (Ok d.work) (command.Selftest number nodes) asked d.comes) d.put
prints_summary words shelf out answer (inr (inr (inl r))) number nodes asked none = absurd (let e = r.is in cc)
prints_summary words shelf out answer (inr (inr (inr (inl u)))) number nodes asked none = absurd (let e = u.is in cc)
prints_summary words shelf out answer (inr (inr (inr (inr s)))) number nodes asked none = absurd (subst IsOutOfMemory none s.is)
