use Rattle.std.proofs.Common.{◌≡◌, ◌+◌, ◌∷◌, [], ap, sym, ◌∙◌, length, List, subst, drop}
use Rattle.std.proofs.lemmas.List.{drop_more, drop_all}
use Rattle.kn_dstate.specs.declared.row.Entry.{Entry}
use Rattle.kn_dstate.proofs.Rows.{NamesBelow-weaker}
use Rattle.kn_dstate.proofs.Growing.{Extending, extending_first, extending_more, extending_done, names_weaker}
use Rattle.kn_dstate.proofs.table.extend.Goals as goal

pub loop-entry-init : goal.loop-entry-init
loop-entry-init c = extending_first c.args.rows.now.items c.args.node c.args.before c.args.entries.now c.requires.table c.requires.before c.requires.names

pub push-requires-clause-names : goal.push-requires-clause-names
push-requires-clause-names c =
    let i = c.loop-entry.entry-index in
    let left : drop i c.args.entries.now ≡ c.entry-item.result ∷ drop (i + 1) c.args.entries.now = drop_more c.args.entries.now i c.entry-item.result c.loop-entry-test.true ∙ ap (λ (x : Entry). x ∷ drop (i + 1) c.args.entries.now) (sym c.entry-item.is) in
    let so = subst (λ (l : List Entry). Extending c.args.rows.now.items c.loop-entry.rows.items c.args.node c.args.before c.loop-entry.last l c.args.entries.now) left c.loop-entry.invariant in
    NamesBelow-weaker (length c.args.rows.now.items) (length c.loop-entry.rows.items) c.entry-item.result (names_weaker c.args.rows.now.items c.loop-entry.rows.items c.entry-item.result so.grows so.names.0) so.names.0

pub loop-entry-preserved : goal.loop-entry-preserved
loop-entry-preserved c =
    let i = c.loop-entry.entry-index in
    let left : drop i c.args.entries.now ≡ c.entry-item.result ∷ drop (i + 1) c.args.entries.now = drop_more c.args.entries.now i c.entry-item.result c.loop-entry-test.true ∙ ap (λ (x : Entry). x ∷ drop (i + 1) c.args.entries.now) (sym c.entry-item.is) in
    let so = subst (λ (l : List Entry). Extending c.args.rows.now.items c.loop-entry.rows.items c.args.node c.args.before c.loop-entry.last l c.args.entries.now) left c.loop-entry.invariant in
    extending_more c.args.rows.now.items c.loop-entry.rows.items c.push.new.rows.items c.args.node c.args.before c.loop-entry.last c.in_ok-last.last c.entry-item.result (drop (i + 1) c.args.entries.now) c.args.entries.now so c.in_ok-last.ensures.table c.in_ok-last.ensures.grows c.in_ok-last.ensures.tells

pub returns-clause-tells : goal.returns-clause-tells
returns-clause-tells c =
    let none : drop c.loop-entry.entry-index c.args.entries.now ≡ [] = drop_all c.loop-entry.entry-index c.args.entries.now c.loop-entry-test.false in
    extending_done c.args.rows.now.items c.loop-entry.rows.items c.args.node c.args.before c.loop-entry.last c.args.entries.now
    (subst (λ (l : List Entry). Extending c.args.rows.now.items c.loop-entry.rows.items c.args.node c.args.before c.loop-entry.last l c.args.entries.now) none c.loop-entry.invariant)
