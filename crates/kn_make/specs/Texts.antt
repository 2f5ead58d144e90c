-- The programs of the generator as assembler text, for a sink's tick and a source's number of readings.
use Rattle.std.specs.Prelude.{ℕ, List, [], ◌∷◌, ◌++◌, codes, decimal}
use Rattle.std.specs.List.{flat_map}

-- lines, each with its line feed
abbrev pub text_of : List (List ℕ) → List ℕ
text_of = flat_map (λ (l : List ℕ). l ++ codes "\n")

abbrev pub sink_text : ℕ → List ℕ
sink_text tick = text_of (
    (codes "boot:   timer 0, " ++ decimal tick)
    ∷ codes "        ret"
    ∷ codes "recv:   const r1, 1"
    ∷ codes "        add r2, r2, r1"
    ∷ codes "        recvw r0, 0"
    ∷ codes "        ret"
    ∷ codes "timer0: assert r2"
    ∷ codes "        const r3, 8"
    ∷ codes "        ult r4, r0, r3"
    ∷ codes "        brz r4, done"
    ∷ codes "done:   ret"
    ∷ [])

abbrev pub relay_text : List ℕ
relay_text = text_of (
    codes "recv:   recvw r0, 0"
    ∷ codes "        send 0, r0, 1"
    ∷ codes "        ret"
    ∷ [])

abbrev pub source_text : ℕ → List ℕ
source_text readings = text_of (
    codes "boot:   const r3, 1"
    ∷ (codes "        const r4, " ++ decimal readings)
    ∷ codes "        timer 0, 1"
    ∷ codes "        ret"
    ∷ codes "timer0: input r0, 4"
    ∷ codes "        send 0, r0, 1"
    ∷ codes "        sub r4, r4, r3"
    ∷ codes "        brz r4, done"
    ∷ codes "        timer 0, 1"
    ∷ codes "done:   ret"
    ∷ [])
