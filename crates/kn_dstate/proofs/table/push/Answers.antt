use Rattle.std.proofs.Common.{◌≡◌, ap, ◌∙◌, arith, rules, length, ◌+◌, ◌++◌, ◌∷◌, [], List}
use Rattle.std.proofs.lemmas.Option.{slice_get_within}
use Rattle.kn_built.proofs.BuiltLaws.{length-built}
use Rattle.kn_dstate.specs.declared.row.Entry.{Entry}
use Rattle.kn_dstate.specs.declared.row.Past.TheVariants.{After}
use Rattle.kn_dstate.specs.declared.row.Row.{Row}
use Rattle.kn_packet.specs.Histories.{followed}
use Rattle.kn_dstate.specs.Histories.{told, told_by, history_in, entry_history, entry_count}
use Rattle.kn_dstate.proofs.Growing.{pushed_after, Pushed}
use Rattle.kn_dstate.proofs.table.push.Goals as goal

pub count_of-count-requires-clause-place : goal.count_of-count-requires-clause-place
count_of-count-requires-clause-place c =
    let rows = c.args.rows.now.items in
    let low = slice_get_within (told rows) c.args.before (record { node = c.args.node; history = c.requires.before.0 }) c.requires.before.1 in
    let size : length (told rows) ≡ length rows = length-built told_by rows in
    let same : c.deref.result.now ≡ rows = search rules in
    omega (arith, low, size, ap length same)

pub overflow_add-count : goal.overflow_add-count
overflow_add-count c =
    let rows = c.args.rows.now.items in
    let low = slice_get_within (told rows) c.args.before (record { node = c.args.node; history = c.requires.before.0 }) c.requires.before.1 in
    let size : length (told rows) ≡ length rows = length-built told_by rows in
    let same : c.deref.result.now ≡ rows = search rules in
    record { fits = omega (arith, low, size, ap length same, c.deref.ensures.len, c.count_of-count.ensures.few) }

all : (c : goal.In_ok-push) → Pushed c.args.rows.now.items c.push.new.self.items c.len-place.result (record { node = c.args.node; history = followed (history_in (told c.args.rows.now.items) c.args.before) (entry_history (told c.args.rows.now.items) c.args.entry.now) })
all c =
    let rows = c.args.rows.now.items in
    let same : c.deref.result.now ≡ rows = search rules in
    let copy : c.in_ok-entry.entry ≡ c.args.entry.now = search rules in
    let pushed = c.in_ok-push.ensures.items ∙ ap (λ (x : Entry). rows ++ record { node = c.args.node; count = c.count_of-count.result + 1; past = After c.args.before x } ∷ []) copy in
    let count = c.count_of-count.ensures.count ∙ ap (λ (l : List Row). entry_count (history_in (told l) c.args.before)) same in
    pushed_after rows c.push.new.self.items c.args.node c.args.before c.count_of-count.result c.len-place.result c.args.entry.now c.requires.table c.requires.before c.requires.names count c.count_of-count.ensures.few pushed (search rules)

pub returns-clause-table : goal.returns-clause-table
returns-clause-table c = (all c).table

pub returns-clause-grows : goal.returns-clause-grows
returns-clause-grows c = (all c).grows

pub returns-clause-tells : goal.returns-clause-tells
returns-clause-tells c = (all c).tells
