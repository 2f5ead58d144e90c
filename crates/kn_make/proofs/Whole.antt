-- The networks are valid, and are read from their texts.
use Rattle.std.proofs.Common.{ℕ, ◌+◌, ◌<◌, ◌≤◌, ◌^◌, rules, arith}
use Rattle.kn_code.specs.Code.{IsValid}
use Rattle.kn_netfile.proofs.Back.{text_back}
use Rattle.kn_make.specs.Programs.{sink, relay, source}
use Rattle.kn_make.specs.Making.{chain_length, reading_count, chain_count, made}
use Rattle.kn_make.specs.Laws.{AreValid, AreReadBack}
use Rattle.kn_make.proofs.Valid.{made_is_file}
use Rattle.kn_make.proofs.Short.{made_is_short}

sink_is_valid : (tick : ℕ) → 1 ≤ tick → tick < 2 ^ 16 → IsValid (sink tick)
sink_is_valid tick some fit = search rules

relay_is_valid : IsValid relay
relay_is_valid = search rules

source_is_valid : (readings : ℕ) → readings < 2 ^ 16 → IsValid (source readings)
source_is_valid readings fit = search rules

pub are_valid : AreValid
unfolding made
are_valid n less =
    let two : 2 ≤ chain_length n = omega arith in
    let long : chain_length n ≤ 4 = omega arith in
    let few : reading_count n ≤ 6 = omega arith in
    let some : 1 ≤ chain_count n = omega arith in
    let most : chain_count n ≤ 2 = omega arith in (
      made_is_file (chain_length n) (reading_count n) (chain_count n) two long few some most,
      (sink_is_valid (reading_count n + chain_length n + 1) (omega arith) (omega (arith, long, few)), (relay_is_valid, (source_is_valid (reading_count n) (omega (arith, few)), tt))),
    )

pub are_read_back : AreReadBack
are_read_back n less = text_back (made n) (are_valid n less).0 (are_valid n less).1 (made_is_short n less)
