-- A trace's text is plain text.
use Rattle.std.proofs.Common.{◌≡◌, ℕ, zero, suc, ◌<◌, Bool, true, false, List, [], ◌∷◌, map, sym, subst, arith}
use Rattle.std.specs.Prelude.{slice_index}
use Rattle.std.specs.Str.{IsUtf8}
use Rattle.std.proofs.lemmas.Str.{IsUtf8-from_ascii}
use Rattle.kn_trace.specs.Text.{text_of, digit_of}

nothing : (i : ℕ) → slice_index [] i < 128
nothing zero = omega arith
nothing (suc i) = omega arith

digits : (bits : List Bool) (i : ℕ) → slice_index (map digit_of bits) i < 128
digits [] i = nothing i
digits (false ∷ bits) zero = omega arith
digits (true ∷ bits) zero = omega arith
digits (bit ∷ bits) (suc i) = digits bits i

ascii : (bits : List Bool) (i : ℕ) → slice_index (text_of bits) i < 128
ascii [] zero = omega arith
ascii [] (suc i) = nothing i
ascii (bit ∷ bits) i = digits (bit ∷ bits) i

pub trace_utf8 : (word : List ℕ) (bits : List Bool) → word ≡ text_of bits → IsUtf8 word
trace_utf8 word bits is = subst IsUtf8 (sym is) (IsUtf8-from_ascii (text_of bits) (ascii bits))
