-- One more entry.
use Rattle.std.proofs.Common.{◌≡◌, ◌∙◌, ◌+◌, ◌<◌, ◌++◌, ◌∷◌, [], Some, List, ap, sym, length, drop, arith}
use Rattle.std.specs.Prelude.{slice_get}
use Rattle.std.proofs.lemmas.Option.{slice_get_within}
use Rattle.kn_aig.proofs.Values.{extends_same, extends_twice}
use Rattle.kn_aig.specs.Circuits.{inputs_of}
use Rattle.kn_term.specs.Terms.{Given}
use Rattle.kn_blast.specs.Inputs.{bits_of, laid_out}
use Rattle.kn_blast.specs.declared.inputs.InputBits.{InputBits}
use Rattle.kn_blast.proofs.Laying.{only_none, laid_more, laid_whole, word_positive, next_count}
use Rattle.kn_blast.proofs.opening.laid_out.Goals as goal

pub loop-node-init : goal.loop-node-init
loop-node-init c =
    let none = c.requires.none in
    record {
      only = only_none c.args.aig.now c.size.ensures.circuit none;
      out = ap (λ (es : List InputBits). es ++ laid_out (inputs_of c.args.aig.now) c.args.widths.now) c.new-entries.ensures.items ∙ ap (λ k. laid_out k c.args.widths.now) none;
      count = ap bits_of c.new-entries.ensures.items ∙ sym none;
      place = omega arith;
      grows = extends_same c.args.aig.now;
    }

pub bits_for-requires-clause-width : goal.bits_for-requires-clause-width
bits_for-requires-clause-width c = word_positive c.args.widths.now c.loop-node.place _ c.order.ensures c.in-Some.ensures.entry

pub overflow_add-place : goal.overflow_add-place
overflow_add-place c =
    let within : c.loop-node.place < length c.args.widths.now = slice_get_within c.args.widths.now c.loop-node.place _ c.in-Some.ensures.entry in
    omega (arith, within, c.in-Some.ensures.few)

pub loop-node-smaller : goal.loop-node-smaller
loop-node-smaller c =
    let within : c.loop-node.place < length c.args.widths.now = slice_get_within c.args.widths.now c.loop-node.place _ c.in-Some.ensures.entry in
    omega (arith, within)

pub loop-node-preserved : goal.loop-node-preserved
loop-node-preserved c =
    let a = c.args.widths.now in
    let place = c.loop-node.place in
    let g : Given = record { node = c.in-Some.node; index = c.in-Some.index; word = c.in-Some.width } in
    let is : slice_get a place ≡ Some g = c.in-Some.ensures.entry in
    let within : place < length a = slice_get_within a place g is in
    let old = c.loop-node.entries.items in
    let new = c.push.new.self.items in
    let e = c.in_ok-entry.entry in
    let pushed : new ≡ old ++ e ∷ [] = c.in_ok-push.ensures.items in
    let count : inputs_of c.bits_for.new.aig ≡ inputs_of c.loop-node.aig + g.word = c.in_ok-entry.ensures.inputs in
    let more = laid_more a place (inputs_of c.loop-node.aig) g old new (laid_out 0 a) e is pushed c.in_ok-entry.ensures.entry c.loop-node.invariant.out in
    record {
      only = c.in_ok-entry.ensures.only;
      out = ap (λ k. new ++ laid_out k (drop (place + 1) a)) count ∙ more;
      count = next_count old new e (inputs_of c.loop-node.aig) (inputs_of c.bits_for.new.aig) g.word pushed (ap (λ (f : InputBits). f.width) c.in_ok-entry.ensures.entry) c.loop-node.invariant.count count;
      place = omega (arith, within);
      grows = extends_twice _ _ _ c.loop-node.invariant.grows c.in_ok-entry.ensures.grows;
    }

pub returns-clause-entries : goal.returns-clause-entries
returns-clause-entries c = laid_whole c.args.widths.now c.loop-node.place (inputs_of c.loop-node.aig) c.loop-node.entries.items (laid_out 0 c.args.widths.now) c.in_default.ensures.entry c.loop-node.invariant.out
