-- The instruction table: what a row says, and the rows.
use Rattle.std.specs.Prelude.{◌≡◌, ℕ, List, [], ◌∷◌, map, find, Some, codes, nat_eq}
use Rattle.std.specs.List.{IsDistinct, AllByRecursion}
use Rattle.std.specs.Str.{bytes_eq}
use Rattle.kn_ops.specs.declared.table.Row.{Row}
use Rattle.kn_ops.specs.declared.table.Shape.{Shape}
use Rattle.kn_ops.specs.declared.table.Shape.TheVariants as shapes

-- a row as contracts see it: its name's bytes, its code, and what operands there are
pub record Entry : Type 0 where
  pub name : List ℕ
  pub code : ℕ
  pub shape : Shape

-- a row's entry
abbrev pub entry_of : Row → Entry
entry_of r = record { name = r.name.now; code = r.code; shape = r.shape }

-- an entry from its code, name and operands
abbrev pub entry : ℕ → List ℕ → Shape → Entry
entry code name shape = record { name = name; code = code; shape = shape }

-- no two entries have one code
abbrev pub CodesDiffer : List Entry → Type 0
CodesDiffer es = IsDistinct nat_eq (map (λ (e : Entry). e.code) es)

-- no two entries have one name
abbrev pub NamesDiffer : List Entry → Type 0
NamesDiffer es = IsDistinct bytes_eq (map (λ (e : Entry). e.name) es)

-- each entry is the first one with its code
abbrev pub OneByCode : List Entry → Type 0
OneByCode es = AllByRecursion (λ e. find (λ (x : Entry). nat_eq x.code e.code) es ≡ Some e) es

-- each entry is the first one with its name
abbrev pub OneByName : List Entry → Type 0
OneByName es = AllByRecursion (λ e. find (λ (x : Entry). bytes_eq x.name e.name) es ≡ Some e) es

-- the table, in the order of codes
abbrev pub instructions : List Entry
instructions =
    entry 1 (codes "const") shapes.RegWord ∷
    entry 2 (codes "mov") shapes.RegReg ∷
    entry 3 (codes "not") shapes.RegReg ∷
    entry 4 (codes "ld") shapes.RegMem ∷
    entry 5 (codes "st") shapes.MemReg ∷
    entry 6 (codes "ldx") shapes.RegRegSpan ∷
    entry 7 (codes "stx") shapes.RegRegSpan ∷
    entry 8 (codes "jmp") shapes.Target ∷
    entry 9 (codes "brz") shapes.RegTarget ∷
    entry 10 (codes "input") shapes.RegWidth ∷
    entry 11 (codes "timer") shapes.TimerDelay ∷
    entry 12 (codes "cancel") shapes.TimerOnly ∷
    entry 13 (codes "send") shapes.LinkRegCount ∷
    entry 14 (codes "bcast") shapes.RegCount ∷
    entry 15 (codes "recvw") shapes.RegIndex ∷
    entry 16 (codes "add") shapes.RegRegReg ∷
    entry 17 (codes "sub") shapes.RegRegReg ∷
    entry 18 (codes "mul") shapes.RegRegReg ∷
    entry 19 (codes "and") shapes.RegRegReg ∷
    entry 20 (codes "or") shapes.RegRegReg ∷
    entry 21 (codes "xor") shapes.RegRegReg ∷
    entry 22 (codes "shl") shapes.RegRegReg ∷
    entry 23 (codes "shr") shapes.RegRegReg ∷
    entry 24 (codes "sar") shapes.RegRegReg ∷
    entry 25 (codes "udiv") shapes.RegRegReg ∷
    entry 26 (codes "urem") shapes.RegRegReg ∷
    entry 27 (codes "eq") shapes.RegRegReg ∷
    entry 28 (codes "ult") shapes.RegRegReg ∷
    entry 29 (codes "slt") shapes.RegRegReg ∷
    entry 30 (codes "rlen") shapes.Reg ∷
    entry 31 (codes "rfrom") shapes.Reg ∷
    entry 32 (codes "assert") shapes.Reg ∷
    entry 33 (codes "node") shapes.Reg ∷
    entry 34 (codes "now") shapes.Reg ∷
    entry 35 (codes "ret") shapes.Bare ∷
    entry 36 (codes "halt") shapes.Bare ∷
    []
