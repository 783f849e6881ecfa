-- What the words ask for, and what they name.
use Rattle.std.proofs.Common.{◌≡◌, ◌∙◌, ℕ, ◌≤◌, Bool, true, false, List, refl, ap, subst, sym, arith}
use Rattle.std.proofs.Math.Path.{fun_ext}
use Rattle.std.proofs.lemmas.Bool.{false≢true}
use Rattle.std.proofs.lemmas.Option.{same_Some}
use Rattle.std.specs.Prelude.{◌≢◌, ◌&&◌, Option, Some, None, Result, codes, is_some}
use Rattle.std.specs.List.{list_all}
use Rattle.clap.specs.Words.{Row}
use Rattle.command_words.specs.Words.{Asks as IsRequestOf, IsNumberIfGiven, IsRequest, IsWorkers, is_given, needed_by, run_documents}
use Rattle.command_words.specs.declared.request.Command.{Command as AnyCommand}
use Rattle.command_words.specs.declared.request.Command.TheVariants as any
use Rattle.command_words.specs.declared.request.Request.{Request}
use Rattle.fbcc_core.specs.Causes.{Comes}
use Rattle.fbcc_core.specs.Commands.{work_of}
use Rattle.fbcc_core.specs.Seen.{ShelfSeen}
use Rattle.fbcc_core.specs.Words.{Accepts, Asks, IsGenerated, Names, command_in, command_of, name_given, names_of}
use Rattle.fbcc_core.specs.declared.answer.Document.{Document}
use Rattle.fbcc_core.specs.declared.answer.Document.TheVariants as document
use Rattle.fbcc_core.specs.declared.answer.Fault.{Fault}
use Rattle.fbcc_core.specs.NamedDocuments.{AreDomainNames, AreNamed, IsCaseInRange, IsOfCase}
use Rattle.fbcc_core.specs.declared.request.Command.{Command}
use Rattle.fbcc_core.specs.declared.request.Command.TheVariants as command
use Rattle.fbcc_core.specs.declared.work.Work.{Work}

-- ---- One command

-- the same words are requests for the same command of the call
any_same : (words : List (List ℕ)) (p q : Request) → IsRequestOf words p → IsRequestOf words q → p.command ≡ q.command
any_same words p q a b = same_Some p.command q.command (sym a.found.command ∙ b.found.command)

number_same : (least most : ℕ) (text : Option (List ℕ)) (m n : Option ℕ) → IsNumberIfGiven least most text m → IsNumberIfGiven least most text n → m ≡ n
number_same least most None None None p q = refl
number_same least most None None (Some n) p q = absurd q
number_same least most None (Some m) n p q = absurd p
number_same least most (Some text) None n p q = absurd p
number_same least most (Some text) (Some m) None p q = absurd q
number_same least most (Some text) (Some m) (Some n) p q = ap (λ (k : ℕ). Some k) (sym p.value ∙ q.value)

-- .. and for the same generated case
request_same : (words : List (List ℕ)) (p q : Request) → IsRequestOf words p → IsRequestOf words q → command_in p ≡ command_in q
request_same words p q a b =
    ap (λ (c : AnyCommand). command_of c p.case p.nodes) (any_same words p q a b)
    ∙ ap (λ (n : Option ℕ). command_of q.command n p.nodes) (number_same _ _ _ p.case q.case a.found.case b.found.case)
    ∙ ap (λ (n : Option ℕ). command_of q.command q.case n) (number_same _ _ _ p.nodes q.nodes a.found.nodes b.found.nodes)

pub command_same : (words : List (List ℕ)) (c d : Command) → Asks words c → Asks words d → c ≡ d
command_same words c d p q =
    same_Some c d (sym p.is ∙ request_same words p.request q.request p.asked q.asked ∙ q.is)

-- ---- Ranges

nodes_in_range : (text : Option (List ℕ)) (n : ℕ) → IsNumberIfGiven 48 4096 text (Some n) → (48 ≤ n) × (n ≤ 4096)
nodes_in_range None n h = absurd h
nodes_in_range (Some text) n h = (h.not_below, h.not_above)

range_of : (any : AnyCommand) (case nodes : Option ℕ) (text : Option (List ℕ)) (c : Command) → IsNumberIfGiven 48 4096 text nodes → command_of any case nodes ≡ Some c → IsCaseInRange c
range_of any.Rows case nodes text c h e = subst IsCaseInRange (same_Some command.Rows c e) tt
range_of any.Net case nodes text c h e = subst IsCaseInRange (same_Some command.Net c e) tt
range_of any.Domain case nodes text c h e = subst IsCaseInRange (same_Some command.Domain c e) tt
range_of any.Certify case nodes text c h e = subst IsCaseInRange (same_Some command.Certify c e) tt
range_of any.Check case nodes text c h e = subst IsCaseInRange (same_Some command.Check c e) tt
range_of any.Report case nodes text c h e = subst IsCaseInRange (same_Some command.Report c e) tt
range_of any.Selftest None nodes text c h e = absurd (let f = e in cc)
range_of any.Selftest (Some case) None text c h e = absurd (let f = e in cc)
range_of any.Selftest (Some case) (Some nodes) text c h e = subst IsCaseInRange (same_Some (command.Selftest case nodes) c e) (nodes_in_range text nodes h)

-- a generated case has its number of nodes in range
pub case_in_range : (words : List (List ℕ)) (request : Request) (c : Command) → IsRequestOf words request → command_in request ≡ Some c → IsCaseInRange c
case_in_range words request c asked is = range_of request.command request.case request.nodes _ c asked.found.nodes is

-- ---- Names that are needed

both_true : (a b : Bool) → (a && b) ≡ true → (a ≡ true) × (b ≡ true)
both_true true true e = (refl, refl)
both_true true false e = absurd (false≢true e)
both_true false b e = absurd (false≢true e)

given_named : (name found : Option (List ℕ)) → name ≡ found → is_some found ≡ true → name ≢ None
given_named name found e given none = false≢true (sym (ap is_some (sym e ∙ none)) ∙ given)

domain_named : (found : List Row) (request : Request) → IsRequest found request → list_all (is_given found) run_documents ≡ true → AreDomainNames (names_of request)
domain_named found request is all =
    let one = both_true (is_given found (codes "grid")) _ all in
    let two = both_true (is_given found (codes "crac")) _ one.1 in
    let three = both_true (is_given found (codes "glsk")) _ two.1 in
    let four = both_true (is_given found (codes "settings")) _ three.1 in
    record {
      grid = given_named _ _ is.grid one.0;
      crac = given_named _ _ is.crac two.0;
      glsk = given_named _ _ is.glsk three.0;
      settings = given_named _ _ is.settings four.0;
    }

named_by : (found : List Row) (request : Request) → IsRequest found request → (any : AnyCommand) (case nodes : Option ℕ) (c : Command) → list_all (is_given found) (needed_by any) ≡ true
    → command_of any case nodes ≡ Some c → AreNamed c (names_of request)
named_by found request is any.Rows case nodes c all e =
    subst (λ (x : Command). AreNamed x (names_of request)) (same_Some command.Rows c e) (given_named _ _ is.rows (both_true (is_given found (codes "rows")) _ all).0)
named_by found request is any.Net case nodes c all e =
    subst (λ (x : Command). AreNamed x (names_of request)) (same_Some command.Net c e) (given_named _ _ is.grid (both_true (is_given found (codes "grid")) _ all).0)
named_by found request is any.Domain case nodes c all e = subst (λ (x : Command). AreNamed x (names_of request)) (same_Some command.Domain c e) (domain_named found request is all)
named_by found request is any.Certify case nodes c all e = subst (λ (x : Command). AreNamed x (names_of request)) (same_Some command.Certify c e) (domain_named found request is all)
named_by found request is any.Check case nodes c all e =
    let one = both_true (is_given found (codes "certificate")) _ all in
    subst (λ (x : Command). AreNamed x (names_of request)) (same_Some command.Check c e) (domain_named found request is one.1, given_named _ _ is.certificate one.0)
named_by found request is any.Report case nodes c all e = subst (λ (x : Command). AreNamed x (names_of request)) (same_Some command.Report c e) (domain_named found request is all)
named_by found request is any.Selftest None nodes c all e = absurd (let f = e in cc)
named_by found request is any.Selftest (Some case) None c all e = absurd (let f = e in cc)
named_by found request is any.Selftest (Some case) (Some nodes) c all e = subst (λ (x : Command). AreNamed x (names_of request)) (same_Some (command.Selftest case nodes) c e) tt

-- the documents that the command needs are named
pub named_in : (words : List (List ℕ)) (request : Request) (c : Command) → IsRequestOf words request → command_in request ≡ Some c → AreNamed c (names_of request)
named_in words request c asked is = named_by _ request asked.found request.command request.case request.nodes c asked.found.complete is

-- the command is for a generated case where the words are
pub generated_case : (words : List (List ℕ)) (request : Request) (c : Command) → IsRequestOf words request → command_in request ≡ Some c → IsGenerated words → IsOfCase c
generated_case words request c asked is h =
    subst IsOfCase (command_same words (command.Selftest h.case h.nodes) c h.asked (record { request = request; asked = asked; is = is })) tt

workers_given : (text : Option (List ℕ)) (n : ℕ) → IsWorkers text n → (1 ≤ n) × (n ≤ 64)
workers_given None n h = (omega (arith, h), omega (arith, h))
workers_given (Some text) n h = (h.not_below, h.not_above)

pub workers_in_range : (words : List (List ℕ)) (request : Request) → IsRequestOf words request → (1 ≤ request.workers) × (request.workers ≤ 64)
workers_in_range words request asked = workers_given _ request.workers asked.found.workers

-- ---- Words that are accepted, and words that are not

pub no_request : (words : List (List ℕ)) → ((request : Request) → ¬ IsRequestOf words request) → ¬ Accepts words
no_request words none accepted = none accepted.asked.request accepted.asked.asked

pub not_built : (words : List (List ℕ)) (request : Request) → IsRequestOf words request → command_in request ≡ None
    → ¬ Accepts words
not_built words request asked none accepted =
    let some : None ≡ Some accepted.command = sym none ∙ request_same words request accepted.asked.request asked accepted.asked.asked ∙ accepted.asked.is in
    cc

pub accepts : (words : List (List ℕ)) (request : Request) (c : Command) → IsRequestOf words request
    → command_in request ≡ Some c → Accepts words
accepts words request c asked is =
    record { command = c; asked = record { request = request; asked = asked; is = is } }

-- ---- Names

name_same : (words : List (List ℕ)) (request : Request) → IsRequestOf words request → (d : Document)
    → names_of request d ≡ name_given words d
name_same words request asked document.Grid = asked.found.grid
name_same words request asked document.Crac = asked.found.crac
name_same words request asked document.Settings = asked.found.settings
name_same words request asked document.Glsk = asked.found.glsk
name_same words request asked document.Reductions = asked.found.reductions
name_same words request asked document.Certificate = asked.found.certificate
name_same words request asked document.Rows = asked.found.rows

-- the names in the request are those that the words give
pub names_same : (words : List (List ℕ)) (request : Request) → IsRequestOf words request → names_of request ≡ name_given words
names_same words request asked = fun_ext (name_same words request asked)

-- what the work of the request comes to, the words come to
pub comes : (words : List (List ℕ)) (request : Request) (shelf : ShelfSeen) (c : Command) (r : Result Work Fault)
    → IsRequestOf words request → command_in request ≡ Some c → work_of (names_of request) shelf c r → Comes words shelf r
comes words request shelf c r asked is steps = record {
  command = c;
  asked = record { request = request; asked = asked; is = is };
  steps = subst (λ (names : Names). work_of names shelf c r) (names_same words request asked) steps;
}
