-- The programs are what their texts are assembled to.
use Rattle.std.proofs.Common.{◌≡◌, ℕ, ◌+◌, ◌≤◌, Ok, refl, arith}
use Rattle.std.specs.Fmt.{digits}
use Rattle.kn_asm.specs.Words.{skip, word, after_word, uncommented}
use Rattle.kn_asm.specs.Operands.{operands_of_lem}
use Rattle.kn_asm.specs.Lines.{line_of_lem}
use Rattle.kn_asm.specs.Assembling.{assembled, place_from}
use Rattle.kn_make.specs.Programs.{sink, relay, source}
use Rattle.kn_make.specs.Texts.{sink_text, relay_text, source_text}
use Rattle.kn_make.specs.Making.{chain_length, reading_count, made}
use Rattle.kn_make.specs.Laws.{AreAssembled}
use Rattle.kn_make.proofs.Below.{AllBelow, at_below}

IsSinkText : ℕ → Type 0
IsSinkText k = assembled (sink_text (k + 1)) ≡ Ok (sink (k + 1))

IsSourceText : ℕ → Type 0
IsSourceText k = assembled (source_text k) ≡ Ok (source k)

sinks : AllBelow IsSinkText 11
unfolding IsSinkText assembled place_from line_of_lem skip word after_word uncommented operands_of_lem digits
sinks = (refl, (refl, (refl, (refl, (refl, (refl, (refl, (refl, (refl, (refl, (refl, tt)))))))))))

relays : assembled relay_text ≡ Ok relay
unfolding assembled place_from line_of_lem skip word after_word uncommented operands_of_lem
relays = refl

sources : AllBelow IsSourceText 7
unfolding IsSourceText assembled place_from line_of_lem skip word after_word uncommented operands_of_lem digits
sources = (refl, (refl, (refl, (refl, (refl, (refl, (refl, tt)))))))

pub are_assembled : AreAssembled
unfolding made IsSinkText IsSourceText
are_assembled n less =
    let long : chain_length n ≤ 4 = omega arith in
    let few : reading_count n ≤ 6 = omega arith in
    let s : assembled (sink_text (reading_count n + chain_length n + 1)) ≡ Ok (sink (reading_count n + chain_length n + 1)) = at_below IsSinkText 11 (reading_count n + chain_length n) sinks (omega (arith, long, few)) in
    let r : assembled (source_text (reading_count n)) ≡ Ok (source (reading_count n)) = at_below IsSourceText 7 (reading_count n) sources (omega (arith, few)) in
    rw (s, relays, r) refl
