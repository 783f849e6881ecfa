use Rattle.std.proofs.Common.{◌≡◌, ℕ, ◌+◌, ◌≤◌, List, ◌++◌, length, Option, Some, None, sym, subst, arith, append-nil, length-append}
use Rattle.std.specs.Option.{option_to_list}
use Rattle.std.proofs.lemmas.Result.{err_from_is_err_and}
use Rattle.fb_json.specs.Spots.{spot_tree}
use Rattle.json_reading.specs.Reading.{entries_of}
use Rattle.json_reading.specs.Here.{at_of}
use Rattle.json_reading.proofs.Entries.{goes_on, ends, is_done}
use Rattle.json_reading.proofs.each.items_of.Goals as goal

pub read-requires : goal.read-requires
read-requires g c = subst (λ items. g.R.ItemReader.keeps c.loop-number.index items) (sym c.deref.ensures.value) c.loop-number.invariant.1

pub returns-in_err-item-clause-items : goal.returns-in_err-item-clause-items
returns-in_err-item-clause-items g c =
    let p = err_from_is_err_and c.from_residual.result c.from_residual.ensures.1 in
    let so_far = rw c.item_at-spot.ensures at c.loop-number.invariant.0 in
    let read = rw (c.item-here.ensures, c.deref.ensures.value) at c.in_err-item.ensures.item in
    rw (p.1, p.2) (ends c.in_err-item.field-0.0 (g.R.ItemReader.reads c.args.reader.now) c.loop-number.items.items _ _ _ read so_far)

kept_few : {B : Type 0} (before after : List B) (item : Option B) (number : ℕ) → after ≡ before ++ option_to_list item → length before ≤ number → length after ≤ number + 1
kept_few before after None number e le = rw (e, append-nil) (omega (arith, le))
kept_few before after (Some x) number e le = rw (e, length-append) (omega (arith, le))

pub loop-number-preserved : goal.loop-number-preserved
loop-number-preserved g c =
    let so_far = rw c.item_at-spot.ensures at c.loop-number.invariant.0 in
    let read = rw (c.item-here.ensures, c.deref.ensures.value) at c.in_ok-item.ensures.item in (
      goes_on (g.R.ItemReader.reads c.args.reader.now) c.loop-number.items.items c.keep.new.items.items _ _ c.in_ok-item.item _ read c.in_ok-keep.ensures so_far,
      rw (c.in_ok-keep.ensures, sym c.deref.ensures.value) c.in_ok-item.ensures.index,
      kept_few c.loop-number.items.items c.keep.new.items.items c.in_ok-item.item c.loop-number.number c.in_ok-keep.ensures c.loop-number.invariant.2,
    )

pub returns-clause-items : goal.returns-clause-items
returns-clause-items g c = is_done (g.R.ItemReader.reads c.args.reader.now) c.loop-number.items.items (at_of c.args.at.now) c.loop-number.number (entries_of (spot_tree c.args.at.now.spot)) _ (omega arith) c.loop-number.invariant.0
