use Rattle.std.proofs.Common.{◌≡◌, List, map, string_bytes, ℕ, inr, subst, ap, ◌∙◌}
use Rattle.kn_words.specs.Lines.{words_of}
use Rattle.netsym_main.specs.Calls.{IsCall}
use Rattle.netsym_main.proofs.called.Goals as goal

pub returns-clause-ends : goal.returns-clause-ends
returns-clause-ends g c =
    let same : words_of c.deref.result.now ≡ map string_bytes c.args.texts.now = ap words_of c.deref.ensures.value ∙ c.in-Ok.ensures in
    let Said : List (List ℕ) → Type 0 = λ words.
    IsCall words (g.S.Source.left c.args.source.now) (g.S.Source.left c.run_alone.new.source) (g.S.Source.faults c.args.source.now) (g.S.Source.faults c.run_alone.new.source) (g.K.Sink.taken c.args.sink.now) (g.K.Sink.taken c.run_alone.new.sink) (g.K.Sink.faults c.args.sink.now) (g.K.Sink.faults c.run_alone.new.sink) c.code-2.result in
    let e = c.run_alone.ensures in
    inr (subst Said same (record { status = c.run_alone.result; number_is = c.code-2.ensures; runs = e.runs; reads = e.reads; writes = e.writes; read_fault = e.read_fault; write_fault = e.write_fault; usage = e.usage; exact = e.exact; made = e.made }))
