use Rattle.std.proofs.Common.{◌≡◌, suc, ◌-◌, ◌<◌, ◌*◌, [], ◌∷◌, ◌++◌, length, map, Some, None, refl, subst, sym, ap, ap₂, ◌∙◌, arith, rules}
use Rattle.std.specs.Prelude.{IsUtf8}
use Rattle.std.proofs.lemmas.List.{length-map}
use Rattle.json.specs.Token.{Token}
use Rattle.json.specs.Json.{parse_map, after_end_array, read_key, items, members, value}
use Rattle.json.specs.Reads.{token_of}
use Rattle.json.proofs.Grammar.{value_is, value-begin_array, value-begin_object, read_key-shorter}
use Rattle.serde_json.specs.Data.{string, array, object, no_members}
use Rattle.serde_json.specs.Read.{of_json, of_items, of_members, converted, number_of}
use Rattle.fb_json.specs.Kept.{tree_of, put_all}
use Rattle.fb_json.specs.Building.{IsGathered, part_tree}
use Rattle.fb_json.specs.declared.node.Part.TheVariants.{Text}
use Rattle.fb_json.proofs.Turns.{converted-array, converted-object, item_read, item_refused, items_over, member_read, member_refused, key_refused, members_over}
use Rattle.fb_json.proofs.Gathered.{Adds, grows_not, put_grows, text_lies, number_lies, text_tree, number_tree, listing_none, listing_push, listing_trees, gathered_grows, items_before, items_before-no_items, one_more_item, none_before, put_pair, length-pair, all_grows, all_items, all_members}
use Rattle.fb_json.proofs.builder.+read.Goals as goal

pub read-returns-in_err-token-clause-err : goal.read-returns-in_err-token-clause-err
read-returns-in_err-token-clause-err t c refused =
    let empty : c.args.reader.now ≡ [] = grind arith in
    ap (converted of_json) (ap (value c.args.depth) empty ∙ value_is c.args.depth [])

pub read-returns-then-depth-eq0-clause-err : goal.read-returns-then-depth-eq0-clause-err
unfolding value
read-returns-then-depth-eq0-clause-err t c never =
    let first : c.args.reader.now ≡ token_of c.in_ok-token.token ∷ c.next.new.self = grind arith in
    let none : c.args.depth ≡ 0 = omega arith in
    ap (converted of_json) (ap₂ value none (first ∙ ap (λ k. token_of k ∷ c.next.new.self) c.in-BeginArray.is))

pub read-returns-then-depth-eq0-2-clause-err : goal.read-returns-then-depth-eq0-2-clause-err
unfolding value
read-returns-then-depth-eq0-2-clause-err t c never =
    let first : c.args.reader.now ≡ token_of c.in_ok-token.token ∷ c.next.new.self = grind arith in
    let none : c.args.depth ≡ 0 = omega arith in
    ap (converted of_json) (ap₂ value none (first ∙ ap (λ k. token_of k ∷ c.next.new.self) c.in-BeginObject.is))

pub read-returns-in_err-read_items-in-BeginArray-clause-err : goal.read-returns-in_err-read_items-in-BeginArray-clause-err
read-returns-in_err-read_items-in-BeginArray-clause-err t c refused =
    let first : c.args.reader.now ≡ token_of c.in_ok-token.token ∷ c.next.new.self = grind arith in
    let opened = ap (converted of_json) (ap (value c.args.depth) (first ∙ ap (λ k. token_of k ∷ c.next.new.self) c.in-BeginArray.is) ∙ value-begin_array c.args.depth c.next.new.self (omega arith)) ∙ converted-array (items (value (c.args.depth - 1)) (length c.next.new.self) c.next.new.self) in
    opened ∙ ap (parse_map array) (c.read_items.ensures.err (grind arith))

pub read-returns-in_err-read_members-in-BeginObject-clause-err : goal.read-returns-in_err-read_members-in-BeginObject-clause-err
read-returns-in_err-read_members-in-BeginObject-clause-err t c refused =
    let first : c.args.reader.now ≡ token_of c.in_ok-token.token ∷ c.next.new.self = grind arith in
    let opened = ap (converted of_json) (ap (value c.args.depth) (first ∙ ap (λ k. token_of k ∷ c.next.new.self) c.in-BeginObject.is) ∙ value-begin_object c.args.depth c.next.new.self (omega arith)) ∙ converted-object (members (value (c.args.depth - 1)) (length c.next.new.self) c.next.new.self) in
    opened ∙ ap (parse_map object) (c.read_members.ensures.err (grind arith))

pub read-returns-in_err-check_number-in-Number-clause-err : goal.read-returns-in_err-check_number-in-Number-clause-err
read-returns-in_err-check_number-in-Number-clause-err t c refused =
    let first : c.args.reader.now ≡ token_of c.in_ok-token.token ∷ c.next.new.self = grind arith in
    let is : c.args.reader.now ≡ Token.number c.in-Number.text.now ∷ c.next.new.self = grind (arith, first) in
    let none : number_of c.in-Number.text.now ≡ None = c.check_number.ensures.refuses (grind arith) in
    ap (converted of_json) (ap (value c.args.depth) is ∙ value_is c.args.depth _) ∙ rw none refl

pub read-returns-in_ok-put_text-in-String-clause-grows : goal.read-returns-in_ok-put_text-in-String-clause-grows
read-returns-in_ok-put_text-in-String-clause-grows t c = put_grows c.args.builder.now c.put_text.new.self c.in-String.text.now c.in_ok-put_text-in-String.field-0 c.requires c.in_ok-put_text-in-String.ensures.put

pub read-returns-in_ok-put_text-in-String-clause-ok : goal.read-returns-in_ok-put_text-in-String-clause-ok
read-returns-in_ok-put_text-in-String-clause-ok t c =
    let first : c.args.reader.now ≡ token_of c.in_ok-token.token ∷ c.next.new.self = grind arith in
    let is : c.args.reader.now ≡ Token.string c.in-String.text.now ∷ c.next.new.self = grind (arith, first) in
    let seen = text_tree c.args.builder.now c.put_text.new.self c.in-String.text.now c.in_ok-put_text-in-String.field-0 c.in_ok-put_text-in-String.ensures.put in
    ap (converted of_json) (ap (value c.args.depth) is ∙ value_is c.args.depth _) ∙ ap (λ d. Some (d, c.next.new.self)) (sym seen)

pub read-returns-in_ok-put_text-in-Number-clause-grows : goal.read-returns-in_ok-put_text-in-Number-clause-grows
read-returns-in_ok-put_text-in-Number-clause-grows t c = put_grows c.args.builder.now c.put_text-in-Number.new.self c.in-Number.text.now c.in_ok-put_text-in-Number.field-0 c.requires c.in_ok-put_text-in-Number.ensures.put

pub read-returns-in_ok-put_text-in-Number-clause-lies : goal.read-returns-in_ok-put_text-in-Number-clause-lies
read-returns-in_ok-put_text-in-Number-clause-lies t c = number_lies c.args.builder.now c.put_text-in-Number.new.self c.in-Number.text.now c.in_ok-put_text-in-Number.field-0 c.in_ok-put_text-in-Number.ensures.put

pub read-returns-in_ok-put_text-in-Number-clause-ok : goal.read-returns-in_ok-put_text-in-Number-clause-ok
read-returns-in_ok-put_text-in-Number-clause-ok t c =
    let first : c.args.reader.now ≡ token_of c.in_ok-token.token ∷ c.next.new.self = grind arith in
    let is : c.args.reader.now ≡ Token.number c.in-Number.text.now ∷ c.next.new.self = grind (arith, first) in
    let n = c.in_ok-check_number-in-Number.ensures.number in
    let seen = number_tree c.args.builder.now c.put_text-in-Number.new.self c.in-Number.text.now c.in_ok-put_text-in-Number.field-0 n.0 n.1 c.in_ok-put_text-in-Number.ensures.put in
    ap (converted of_json) (ap (value c.args.depth) is ∙ value_is c.args.depth _) ∙ rw n.1 (ap (λ d. Some (d, c.next.new.self)) (sym seen))

pub read-returns-in-Bool-clause-grows : goal.read-returns-in-Bool-clause-grows
read-returns-in-Bool-clause-grows t c = grows_not c.args.builder.now c.requires

pub read-returns-in-Bool-clause-ok : goal.read-returns-in-Bool-clause-ok
read-returns-in-Bool-clause-ok t c =
    let first : c.args.reader.now ≡ token_of c.in_ok-token.token ∷ c.next.new.self = grind arith in
    let is : c.args.reader.now ≡ Token.boolean c.in-Bool.truth ∷ c.next.new.self = grind (arith, first) in
    ap (converted of_json) (ap (value c.args.depth) is ∙ value_is c.args.depth _)

pub read-returns-in-Null-clause-grows : goal.read-returns-in-Null-clause-grows
read-returns-in-Null-clause-grows t c = grows_not c.args.builder.now c.requires

pub read-returns-in-Null-clause-ok : goal.read-returns-in-Null-clause-ok
read-returns-in-Null-clause-ok t c =
    let first : c.args.reader.now ≡ token_of c.in_ok-token.token ∷ c.next.new.self = grind arith in
    let is : c.args.reader.now ≡ Token.null ∷ c.next.new.self = grind (arith, first) in
    ap (converted of_json) (ap (value c.args.depth) is ∙ value_is c.args.depth _)

pub read-returns-in-EndObject-clause-err : goal.read-returns-in-EndObject-clause-err
read-returns-in-EndObject-clause-err t c refused =
    let first : c.args.reader.now ≡ token_of c.in_ok-token.token ∷ c.next.new.self = grind arith in
    let none : value c.args.depth c.args.reader.now ≡ None = rw (value_is c.args.depth c.args.reader.now, first) (grind arith) in
    ap (converted of_json) none

pub read-returns-in_ok-read_items-in-BeginArray-clause-ok : goal.read-returns-in_ok-read_items-in-BeginArray-clause-ok
read-returns-in_ok-read_items-in-BeginArray-clause-ok t c =
    let first : c.args.reader.now ≡ token_of c.in_ok-token.token ∷ c.next.new.self = grind arith in
    let opened = ap (converted of_json) (ap (value c.args.depth) (first ∙ ap (λ k. token_of k ∷ c.next.new.self) c.in-BeginArray.is) ∙ value-begin_array c.args.depth c.next.new.self (omega arith)) ∙ converted-array (items (value (c.args.depth - 1)) (length c.next.new.self) c.next.new.self) in
    opened ∙ ap (parse_map array) c.in_ok-read_items-in-BeginArray.ensures.ok

pub read-returns-in_ok-read_members-in-BeginObject-clause-ok : goal.read-returns-in_ok-read_members-in-BeginObject-clause-ok
read-returns-in_ok-read_members-in-BeginObject-clause-ok t c =
    let first : c.args.reader.now ≡ token_of c.in_ok-token.token ∷ c.next.new.self = grind arith in
    let opened = ap (converted of_json) (ap (value c.args.depth) (first ∙ ap (λ k. token_of k ∷ c.next.new.self) c.in-BeginObject.is) ∙ value-begin_object c.args.depth c.next.new.self (omega arith)) ∙ converted-object (members (value (c.args.depth - 1)) (length c.next.new.self) c.next.new.self) in
    opened ∙ ap (parse_map object) c.in_ok-read_members-in-BeginObject.ensures.ok

pub read_items-items-init : goal.read_items-items-init
read_items-items-init t c =
    let all = converted of_items (items (value c.args.depth) (length c.args.reader.now) c.args.reader.now) in
    ([], listing_none c.args.builder.now c.requires, length c.args.reader.now, omega arith, none_before all, omega arith)

pub read_items-returns-in_err-item-clause-err : goal.read_items-returns-in_err-item-clause-err
read_items-returns-in_err-item-clause-err t c refused =
    let p = value c.args.depth in
    let l = c.items in
    let trees = map (tree_of l.builder.texts.items l.builder.nodes.items) l.invariant.0 in
    let going : (after_end_array l.reader ≡ None) × (c.take_end_array.new.self ≡ l.reader) = grind arith in
    l.invariant.4 ∙ ap (parse_map (items_before trees)) (item_refused p l.invariant.2 l.reader going.0 (rw (← going.1) (c.read.ensures.err (grind arith))))

pub read_items-items-preserved : goal.read_items-items-preserved
read_items-items-preserved t c =
    let p = value c.args.depth in
    let l = c.items in
    let fresh = l.invariant.0 in
    let n = l.invariant.2 in
    let trees = map (tree_of l.builder.texts.items l.builder.nodes.items) fresh in
    let going : (after_end_array l.reader ≡ None) × (c.take_end_array.new.self ≡ l.reader) = grind arith in
    let done = c.in_ok-item.ensures in
    let part = c.in_ok-item.item in
    let r = c.read.new.reader in
    let less : length r < length l.reader = rw (← going.1) done.shorter in
    let added : Adds l.builder c.read.new.builder part = record { grows = done.grows; waiting = done.waiting; lies = done.lies } in
    let w = c.in_ok-put_waiting.ensures.waits in
    let d = part_tree c.read.new.builder part in
    let turn = item_read p n l.reader r d (omega (arith, l.invariant.3)) going.0 (rw (← going.1) done.ok) in (
      fresh ++ w.node ∷ [],
      listing_push c.args.builder.now l.builder c.read.new.builder c.put_waiting.new.self fresh part l.invariant.1 added w,
      n - 1,
      omega (arith, l.invariant.3),
      l.invariant.4 ∙ ap (parse_map (items_before trees)) turn ∙ one_more_item trees d _
          ∙ ap (λ ds. parse_map (items_before ds) (converted of_items (items p (n - 1) r))) (sym (listing_trees c.args.builder.now l.builder c.read.new.builder c.put_waiting.new.self fresh part l.invariant.1 added w)),
      omega (arith, l.invariant.5),
    )

pub read_items-returns-clause-grows : goal.read_items-returns-clause-grows
read_items-returns-clause-grows t c =
    let from : c.len-from.result ≡ length c.args.builder.now.waiting.items = search rules in
    all_grows c.args.builder.now c.items.builder c.gather.new.self c.items.invariant.0 c.len-from.result c.gather.result c.items.invariant.1 from c.gather.ensures.gathered

pub read_items-returns-clause-ok : goal.read_items-returns-clause-ok
read_items-returns-clause-ok t c =
    let from : c.len-from.result ≡ length c.args.builder.now.waiting.items = search rules in
    let l = c.items in
    let fresh = l.invariant.0 in
    let r = c.take_end_array.new.self in
    let all = converted of_items (items (value c.args.depth) (length c.args.reader.now) c.args.reader.now) in
    let trees = map (tree_of l.builder.texts.items l.builder.nodes.items) fresh in
    let read = l.invariant.4 ∙ ap (parse_map (items_before trees)) (items_over (value c.args.depth) l.invariant.2 l.reader r l.invariant.3 (grind arith)) ∙ ap (λ ds. Some (ds, r)) (items_before-no_items trees) in
    all_items c.args.builder.now l.builder c.gather.new.self fresh c.len-from.result c.gather.result all r l.invariant.1 from read c.gather.ensures.gathered

pub read_members-members-init : goal.read_members-members-init
read_members-members-init t c =
    let all = converted (λ ms. of_members ms no_members) (members (value c.args.depth) (length c.args.reader.now) c.args.reader.now) in
    ([], listing_none c.args.builder.now c.requires, 0, refl, length c.args.reader.now, omega arith, refl, omega arith)

pub read_members-returns-in_err-name-clause-err : goal.read_members-returns-in_err-name-clause-err
read_members-returns-in_err-name-clause-err t c refused =
    let l = c.members in
    let old = put_all (map (tree_of l.builder.texts.items l.builder.nodes.items) l.invariant.0) no_members in
    l.invariant.6 ∙ key_refused (value c.args.depth) old l.invariant.4 l.reader c.in_err-name.ensures.value

pub read_members-read-requires : goal.read_members-read-requires
read_members-read-requires t c =
    let l = c.members in
    let w = c.in_ok-put_waiting.ensures.waits in
    let put = put_grows l.builder c.put_text.new.self c.in-Some.name.now c.in_ok-name-2.name l.invariant.1.grows.sound c.in_ok-name-2.ensures.put in
    (omega arith, rw (w.texts, w.nodes) put.sound)

pub read_members-returns-in_err-member-clause-err : goal.read_members-returns-in_err-member-clause-err
read_members-returns-in_err-member-clause-err t c refused =
    let l = c.members in
    let old = put_all (map (tree_of l.builder.texts.items l.builder.nodes.items) l.invariant.0) no_members in
    let k = c.in-Some.name.now in
    let s = c.next_key.new.self in
    let named : read_key l.reader ≡ Some (Some k, s) = grind arith in
    l.invariant.6 ∙ member_refused (value c.args.depth) old l.invariant.4 k l.reader s named (c.read.ensures.err (grind arith))

pub read_members-members-preserved : goal.read_members-members-preserved
read_members-members-preserved t c =
    let p = value c.args.depth in
    let l = c.members in
    let fresh = l.invariant.0 in
    let n = l.invariant.4 in
    let trees = map (tree_of l.builder.texts.items l.builder.nodes.items) fresh in
    let k = c.in-Some.name.now in
    let s = c.next_key.new.self in
    let named : read_key l.reader ≡ Some (Some k, s) = grind arith in
    let put = c.in_ok-name-2.ensures.put in
    let is_text : IsUtf8 k = search rules in
    let name_added : Adds l.builder c.put_text.new.self (Text c.in_ok-name-2.name) = record {
      grows = put_grows l.builder c.put_text.new.self k c.in_ok-name-2.name l.invariant.1.grows.sound put;
      waiting = put.waiting;
      lies = text_lies l.builder c.put_text.new.self k c.in_ok-name-2.name is_text put;
    } in
    let name_waits = c.in_ok-put_waiting.ensures.waits in
    let named_listing = listing_push c.args.builder.now l.builder c.put_text.new.self c.put_waiting.new.self fresh (Text c.in_ok-name-2.name) l.invariant.1 name_added name_waits in
    let named_trees = listing_trees c.args.builder.now l.builder c.put_text.new.self c.put_waiting.new.self fresh (Text c.in_ok-name-2.name) l.invariant.1 name_added name_waits in
    let done = c.in_ok-member.ensures in
    let part = c.in_ok-member.member in
    let d = part_tree c.read.new.builder part in
    let r = c.read.new.reader in
    let less = read_key-shorter l.reader (Some k) s named in
    let lesser = done.shorter in
    let added : Adds c.put_waiting.new.self c.read.new.builder part = record { grows = done.grows; waiting = done.waiting; lies = done.lies } in
    let waits = c.in_ok-put_waiting-2.ensures.waits in
    let with_name = fresh ++ name_waits.node ∷ [] in
    let member_trees = listing_trees c.args.builder.now c.put_waiting.new.self c.read.new.builder c.put_waiting-in-Some.new.self with_name part named_listing added waits in
    let all = map (tree_of c.put_waiting-in-Some.new.self.texts.items c.put_waiting-in-Some.new.self.nodes.items) (with_name ++ waits.node ∷ []) in
    let text : part_tree c.put_text.new.self (Text c.in_ok-name-2.name) ≡ string k = text_tree l.builder c.put_text.new.self k c.in_ok-name-2.name put in
    let split : all ≡ (trees ++ string k ∷ []) ++ d ∷ [] = member_trees ∙ ap (λ xs. xs ++ d ∷ []) (named_trees ∙ ap (λ x. trees ++ x ∷ []) text) in
    let even : length trees ≡ l.invariant.2 * 2 = length-map fresh (tree_of l.builder.texts.items l.builder.nodes.items) ∙ l.invariant.3 in (
      with_name ++ waits.node ∷ [],
      listing_push c.args.builder.now c.put_waiting.new.self c.read.new.builder c.put_waiting-in-Some.new.self with_name part named_listing added waits,
      suc l.invariant.2,
      length-pair fresh name_waits.node waits.node l.invariant.2 l.invariant.3,
      n - 1,
      omega (arith, l.invariant.5, less, lesser),
      l.invariant.6 ∙ member_read p (put_all trees no_members) n k l.reader s r d (omega (arith, l.invariant.5, less)) named done.ok
          ∙ ap (λ found. converted (λ ms. of_members ms found) (members p (n - 1) r)) (sym (put_pair l.invariant.2 trees all k d even split)),
      omega (arith, l.invariant.7, less, lesser),
    )

pub read_members-returns-clause-grows : goal.read_members-returns-clause-grows
read_members-returns-clause-grows t c =
    let from : c.len-from.result ≡ length c.args.builder.now.waiting.items = search rules in
    gathered_grows c.args.builder.now c.members.builder c.gather.new.self c.members.invariant.0 c.in_ok-span.span c.members.invariant.1 (subst (λ n. IsGathered c.members.builder c.gather.new.self n c.in_ok-span.span) from c.in_ok-span.ensures.gathered)

pub read_members-returns-clause-ok : goal.read_members-returns-clause-ok
read_members-returns-clause-ok t c =
    let from : c.len-from.result ≡ length c.args.builder.now.waiting.items = search rules in
    let l = c.members in
    let old = put_all (map (tree_of l.builder.texts.items l.builder.nodes.items) l.invariant.0) no_members in
    let all = converted (λ ms. of_members ms no_members) (members (value c.args.depth) (length c.args.reader.now) c.args.reader.now) in
    let read = l.invariant.6 ∙ members_over (value c.args.depth) old l.invariant.4 l.reader c.next_key.new.self l.invariant.5 (grind arith) in
    all_members c.args.builder.now l.builder c.gather.new.self l.invariant.0 c.len-from.result l.invariant.2 c.in_ok-span.span all c.next_key.new.self l.invariant.1 from l.invariant.3 read c.in_ok-span.ensures.gathered
