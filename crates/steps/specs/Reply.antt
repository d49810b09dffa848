-- A reply: its number by 01's table, its place, its splits and dead ends, the rounds of the first box (R-10), and the values that it writes. Assumes nothing.
use Rattle.std.specs.Prelude.{ℕ, List, [], cond, eqb}

-- what every call is answered with; only PLAN has values
pub record Reply : Type 0 where
  pub number : ℕ
  pub place : ℕ
  pub splits : ℕ
  pub dead_ends : ℕ
  pub rounds : ℕ
  pub values : List ℕ

-- The search of a box ends with one of these three; the rounds, which are those of the first box alone, are told of the whole (`with_rounds`).

-- PLAN, 0: these values are written
abbrev pub plan : List ℕ → ℕ → ℕ → Reply
plan values splits dead_ends = record { number = 0; place = 0; splits = splits; dead_ends = dead_ends; rounds = 0; values = values }

-- every other end of a search writes nothing
abbrev pub ended : ℕ → ℕ → ℕ → ℕ → Reply
ended number place splits dead_ends = record { number = number; place = place; splits = splits; dead_ends = dead_ends; rounds = 0; values = [] }

-- NONE, 1: with no split it carries the place of the field found dead, and with a split place 0 (R-3)
abbrev pub none : ℕ → ℕ → ℕ → Reply
none place splits dead_ends = ended 1 (cond (eqb splits 0) place 0) splits dead_ends

-- UNDECIDED, 2
abbrev pub undecided : ℕ → ℕ → Reply
undecided splits dead_ends = ended 2 0 splits dead_ends

-- the same reply with so many rounds
abbrev pub with_rounds : ℕ → Reply → Reply
with_rounds rounds r = record { number = r.number; place = r.place; splits = r.splits; dead_ends = r.dead_ends; rounds = rounds; values = r.values }

-- a refusal: zero splits, dead ends and rounds, nothing written
abbrev pub refusal : ℕ → ℕ → Reply
refusal number place = record { number = number; place = place; splits = 0; dead_ends = 0; rounds = 0; values = [] }
