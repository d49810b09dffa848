-- 01's twelve starred cases: the bytes of each file, the splits allowed, and the reply; the counts of l are those of 02 (R-2), the place of d (R-3) and the rounds
-- (R-10) too. Behind them two cases of R-3, five of R-10, four of R-6, nine of R-12 and five of R-14. Assumes nothing.
use Rattle.std.specs.Prelude.{ℕ, List, [], ◌∷◌, ◌++◌}
use Rattle.steps.specs.Reply.{Reply}

-- a file's bytes, the splits allowed, and the reply
pub record Case : Type 0 where
  pub bytes : List ℕ
  pub allowed : ℕ
  pub reply : Reply

-- a case by the bytes, the splits allowed, and the number, the place, the splits, the dead ends, the rounds and the values of the reply
unfoldable pub case : List ℕ → ℕ → ℕ → ℕ → ℕ → ℕ → ℕ → List ℕ → Case
case bytes allowed number place splits dead_ends rounds values =
    record { bytes = bytes; allowed = allowed; reply = record { number = number; place = place; splits = splits; dead_ends = dead_ends; rounds = rounds; values = values } }

-- a. source 002's first example
unfoldable pub case_a : Case
unfolding case
case_a =
    case (1 ∷ 0 ∷ 2 ∷ 3 ∷ 2 ∷ 2 ∷ 0 ∷ 15 ∷ 1 ∷ 0 ∷ 0 ∷ 0 ∷ 2 ∷ 2 ∷ 0 ∷ 0 ∷ 0 ∷ 2 ∷ 3 ∷ 0 ∷ 0 ∷ 0 ∷ 1 ∷ 2 ∷ 0 ∷ 10 ∷ 1 ∷ 0 ∷ 0 ∷ 0 ∷ 1 ∷ 2 ∷ 0 ∷ 0 ∷ 0 ∷ 1 ∷ 2 ∷ 0 ∷ 5 ∷ 3 ∷ 0 ∷ 0 ∷ 0 ∷ 2 ∷ 2 ∷ 0 ∷ 10 ∷ 1 ∷ 0 ∷ 0 ∷ 0 ∷ 2 ∷ 2 ∷ 0 ∷ 0 ∷ 0 ∷ 1 ∷ [])
    1000000 0 0 1 1 2 (2 ∷ 1 ∷ 2 ∷ [])

-- b. its second example
unfoldable pub case_b : Case
unfolding case
case_b =
    case (1 ∷ 0 ∷ 2 ∷ 4 ∷ 2 ∷ 2 ∷ 0 ∷ 20 ∷ 1 ∷ 0 ∷ 0 ∷ 0 ∷ 2 ∷ 2 ∷ 0 ∷ 0 ∷ 0 ∷ 1 ∷ 3 ∷ 0 ∷ 0 ∷ 0 ∷ 1 ∷ 4 ∷ 0 ∷ 0 ∷ 0 ∷ 1 ∷ 2 ∷ 0 ∷ 10 ∷ 2 ∷ 0 ∷ 0 ∷ 0 ∷ 2 ∷ 4 ∷ 0 ∷ 0 ∷ 0 ∷ 1 ∷ 2 ∷ 0 ∷ 10 ∷ 3 ∷ 0 ∷ 0 ∷ 0 ∷ 2 ∷ 4 ∷ 0 ∷ 0 ∷ 0 ∷ 1 ∷ 2 ∷ 0 ∷ 5 ∷ 4 ∷ 0 ∷ 0 ∷ 0 ∷ 2 ∷ [])
    1000000 0 0 0 0 4 (2 ∷ 2 ∷ 2 ∷ 2 ∷ [])

-- c. no rules
unfoldable pub case_c : Case
unfolding case
case_c =
    case (1 ∷ 0 ∷ 2 ∷ 2 ∷ 3 ∷ [])
    1000000 0 0 0 0 1 (1 ∷ 1 ∷ [])

-- d. an empty clause: the field at 5 cannot be met
unfoldable pub case_d : Case
unfolding case
case_d =
    case (1 ∷ 0 ∷ 2 ∷ 2 ∷ 3 ∷ 2 ∷ 0 ∷ 0 ∷ [])
    1000000 1 5 0 1 1 ([])

-- e. {1,2} equals the values of 1, 2
unfoldable pub case_e : Case
unfolding case
case_e =
    case (1 ∷ 0 ∷ 2 ∷ 2 ∷ 2 ∷ 3 ∷ 0 ∷ 6 ∷ 0 ∷ 0 ∷ 0 ∷ 3 ∷ 1 ∷ 2 ∷ [])
    1000000 0 0 1 0 1 (1 ∷ 2 ∷ [])

-- f. the same with no split allowed
unfoldable pub case_f : Case
unfolding case
case_f =
    case (1 ∷ 0 ∷ 2 ∷ 2 ∷ 2 ∷ 3 ∷ 0 ∷ 6 ∷ 0 ∷ 0 ∷ 0 ∷ 3 ∷ 1 ∷ 2 ∷ [])
    0 2 0 0 0 1 ([])

-- g. {1,2,3} equals the values of 1, 2
unfoldable pub case_g : Case
unfolding case
case_g =
    case (1 ∷ 0 ∷ 2 ∷ 2 ∷ 3 ∷ 3 ∷ 0 ∷ 6 ∷ 0 ∷ 0 ∷ 0 ∷ 7 ∷ 1 ∷ 2 ∷ [])
    1000000 1 0 1 2 1 ([])

-- h. {1,2,3} equals the values of 1, 2, 3
unfoldable pub case_h : Case
unfolding case
case_h =
    case (1 ∷ 0 ∷ 2 ∷ 3 ∷ 3 ∷ 3 ∷ 0 ∷ 7 ∷ 0 ∷ 0 ∷ 0 ∷ 7 ∷ 1 ∷ 2 ∷ 3 ∷ [])
    1000000 0 0 3 1 1 (1 ∷ 2 ∷ 3 ∷ [])

-- i. the same with 2 splits allowed
unfoldable pub case_i : Case
unfolding case
case_i =
    case (1 ∷ 0 ∷ 2 ∷ 3 ∷ 3 ∷ 3 ∷ 0 ∷ 7 ∷ 0 ∷ 0 ∷ 0 ∷ 7 ∷ 1 ∷ 2 ∷ 3 ∷ [])
    2 2 0 2 1 1 ([])

-- j. [p1{2,3}], [p1{1} p2{3}]
unfoldable pub case_j : Case
unfolding case
case_j =
    case (1 ∷ 0 ∷ 2 ∷ 2 ∷ 3 ∷ 2 ∷ 0 ∷ 5 ∷ 1 ∷ 0 ∷ 0 ∷ 0 ∷ 6 ∷ 2 ∷ 0 ∷ 10 ∷ 1 ∷ 0 ∷ 0 ∷ 0 ∷ 1 ∷ 2 ∷ 0 ∷ 0 ∷ 0 ∷ 4 ∷ [])
    1000000 0 0 0 0 2 (2 ∷ 3 ∷ [])

-- k. [p1{1} p2{1}]
unfoldable pub case_k : Case
unfolding case
case_k =
    case (1 ∷ 0 ∷ 2 ∷ 2 ∷ 2 ∷ 2 ∷ 0 ∷ 10 ∷ 1 ∷ 0 ∷ 0 ∷ 0 ∷ 1 ∷ 2 ∷ 0 ∷ 0 ∷ 0 ∷ 1 ∷ [])
    1000000 0 0 1 0 1 (1 ∷ 1 ∷ [])

-- l. the four clauses on positions 2 and 3 with one-value sets; 1 and 2 by R-2, where 01 had 3 and 4
unfoldable pub case_l : Case
unfolding case
case_l =
    case (1 ∷ 0 ∷ 2 ∷ 3 ∷ 2 ∷ 2 ∷ 0 ∷ 10 ∷ 2 ∷ 0 ∷ 0 ∷ 0 ∷ 1 ∷ 3 ∷ 0 ∷ 0 ∷ 0 ∷ 1 ∷ 2 ∷ 0 ∷ 10 ∷ 2 ∷ 0 ∷ 0 ∷ 0 ∷ 1 ∷ 3 ∷ 0 ∷ 0 ∷ 0 ∷ 2 ∷ 2 ∷ 0 ∷ 10 ∷ 2 ∷ 0 ∷ 0 ∷ 0 ∷ 2 ∷ 3 ∷ 0 ∷ 0 ∷ 0 ∷ 1 ∷ 2 ∷ 0 ∷ 10 ∷ 2 ∷ 0 ∷ 0 ∷ 0 ∷ 2 ∷ 3 ∷ 0 ∷ 0 ∷ 0 ∷ 2 ∷ [])
    1000000 1 0 1 2 1 ([])

-- the starred cases
unfoldable pub starred : List Case
starred = case_a ∷ case_b ∷ case_c ∷ case_d ∷ case_e ∷ case_f ∷ case_g ∷ case_h ∷ case_i ∷ case_j ∷ case_k ∷ case_l ∷ []

-- ---- R-3: NONE with no split, and the place of the field first found dead

-- [p1{1} p2{1}], [p1{2}], [p2{2}], [p2{1}]: the first round finds the last field dead, at 34, before it comes to the first again
unfoldable pub case_first_round : Case
unfolding case
case_first_round =
    case (1 ∷ 0 ∷ 2 ∷ 2 ∷ 2 ∷ 2 ∷ 0 ∷ 10 ∷ 1 ∷ 0 ∷ 0 ∷ 0 ∷ 1 ∷ 2 ∷ 0 ∷ 0 ∷ 0 ∷ 1 ∷ 2 ∷ 0 ∷ 5 ∷ 1 ∷ 0 ∷ 0 ∷ 0 ∷ 2 ∷ 2 ∷ 0 ∷ 5 ∷ 2 ∷ 0 ∷ 0 ∷ 0 ∷ 2 ∷ 2 ∷ 0 ∷ 5 ∷ 2 ∷ 0 ∷ 0 ∷ 0 ∷ 1 ∷ [])
    1000000 1 34 0 1 1 ([])

-- [p1{2} p2{1}], [p1{1}], [p2{2}]: the first round cuts both rooms, and the second finds the first field dead, at 5
unfoldable pub case_second_round : Case
unfolding case
case_second_round =
    case (1 ∷ 0 ∷ 2 ∷ 2 ∷ 2 ∷ 2 ∷ 0 ∷ 10 ∷ 1 ∷ 0 ∷ 0 ∷ 0 ∷ 2 ∷ 2 ∷ 0 ∷ 0 ∷ 0 ∷ 1 ∷ 2 ∷ 0 ∷ 5 ∷ 1 ∷ 0 ∷ 0 ∷ 0 ∷ 1 ∷ 2 ∷ 0 ∷ 5 ∷ 2 ∷ 0 ∷ 0 ∷ 0 ∷ 2 ∷ [])
    1000000 1 5 0 1 2 ([])

-- both
unfoldable pub unmet : List Case
unmet = case_first_round ∷ case_second_round ∷ []

-- ---- R-10: the rounds of the first box

-- 64 positions of 32 values and no rule: the first round changes nothing, and counts
unfoldable pub case_no_rule : Case
unfolding case
case_no_rule =
    case (1 ∷ 0 ∷ 2 ∷ 64 ∷ 32 ∷ [])
    0 0 0 0 0 1 (1 ∷ 1 ∷ 1 ∷ 1 ∷ 1 ∷ 1 ∷ 1 ∷ 1 ∷ 1 ∷ 1 ∷ 1 ∷ 1 ∷ 1 ∷ 1 ∷ 1 ∷ 1 ∷ 1 ∷ 1 ∷ 1 ∷ 1 ∷ 1 ∷ 1 ∷ 1 ∷ 1 ∷ 1 ∷ 1 ∷ 1 ∷ 1 ∷ 1 ∷ 1 ∷ 1 ∷ 1 ∷ 1 ∷ 1 ∷ 1 ∷ 1 ∷ 1 ∷ 1 ∷ 1 ∷ 1 ∷ 1 ∷ 1 ∷ 1 ∷ 1 ∷ 1 ∷ 1 ∷ 1 ∷ 1 ∷ 1 ∷ 1 ∷ 1 ∷ 1 ∷ 1 ∷ 1 ∷ 1 ∷ 1 ∷ 1 ∷ 1 ∷ 1 ∷ 1 ∷ 1 ∷ 1 ∷ 1 ∷ 1 ∷ [])

-- [p2{1} p3{2}], [p1{1} p2{2}], [p1{2}], v 3, n 2: each of three rounds cuts one room, and the fourth, which is the most, changes nothing
unfoldable pub case_at_the_bound : Case
unfolding case
case_at_the_bound =
    case (1 ∷ 0 ∷ 2 ∷ 3 ∷ 2 ∷ 2 ∷ 0 ∷ 10 ∷ 2 ∷ 0 ∷ 0 ∷ 0 ∷ 1 ∷ 3 ∷ 0 ∷ 0 ∷ 0 ∷ 2 ∷ 2 ∷ 0 ∷ 10 ∷ 1 ∷ 0 ∷ 0 ∷ 0 ∷ 1 ∷ 2 ∷ 0 ∷ 0 ∷ 0 ∷ 2 ∷ 2 ∷ 0 ∷ 5 ∷ 1 ∷ 0 ∷ 0 ∷ 0 ∷ 2 ∷ [])
    1000000 0 0 0 0 4 (2 ∷ 2 ∷ 2 ∷ [])

-- [p1{2}], [p2{1} p3{1}], v 3, n 2: two rounds, and a split is needed
unfoldable pub case_undecided : Case
unfolding case
case_undecided =
    case (1 ∷ 0 ∷ 2 ∷ 3 ∷ 2 ∷ 2 ∷ 0 ∷ 5 ∷ 1 ∷ 0 ∷ 0 ∷ 0 ∷ 2 ∷ 2 ∷ 0 ∷ 10 ∷ 2 ∷ 0 ∷ 0 ∷ 0 ∷ 1 ∷ 3 ∷ 0 ∷ 0 ∷ 0 ∷ 1 ∷ [])
    0 2 0 0 0 2 ([])

-- the same with a split allowed: the rounds stay those of the first box
unfoldable pub case_first_box : Case
unfolding case
case_first_box =
    case (1 ∷ 0 ∷ 2 ∷ 3 ∷ 2 ∷ 2 ∷ 0 ∷ 5 ∷ 1 ∷ 0 ∷ 0 ∷ 0 ∷ 2 ∷ 2 ∷ 0 ∷ 10 ∷ 2 ∷ 0 ∷ 0 ∷ 0 ∷ 1 ∷ 3 ∷ 0 ∷ 0 ∷ 0 ∷ 1 ∷ [])
    1 0 0 1 0 2 (2 ∷ 1 ∷ 1 ∷ [])

-- the same with a second header behind it: a refusal, with no round
unfoldable pub case_refused : Case
unfolding case
case_refused =
    case (1 ∷ 0 ∷ 2 ∷ 3 ∷ 2 ∷ 2 ∷ 0 ∷ 5 ∷ 1 ∷ 0 ∷ 0 ∷ 0 ∷ 2 ∷ 2 ∷ 0 ∷ 10 ∷ 2 ∷ 0 ∷ 0 ∷ 0 ∷ 1 ∷ 3 ∷ 0 ∷ 0 ∷ 0 ∷ 1 ∷ 1 ∷ 0 ∷ 2 ∷ 3 ∷ 2 ∷ [])
    1 15 26 0 0 0 ([])

-- all five
unfoldable pub in_rounds : List Case
in_rounds = case_no_rule ∷ case_at_the_bound ∷ case_undecided ∷ case_first_box ∷ case_refused ∷ []

-- ---- R-6: starting sets

-- [p1{1}], and behind it position 1 starts at {2, 3}, n 3: no value of the clause is there from the start
unfoldable pub case_not_fitted : Case
unfolding case
case_not_fitted =
    case (1 ∷ 0 ∷ 2 ∷ 2 ∷ 3 ∷ 2 ∷ 0 ∷ 5 ∷ 1 ∷ 0 ∷ 0 ∷ 0 ∷ 1 ∷ 4 ∷ 0 ∷ 5 ∷ 1 ∷ 0 ∷ 0 ∷ 0 ∷ 6 ∷ [])
    1000000 1 5 0 1 1 ([])

-- position 2 starts at {3} and position 1 at {2, 3}, n 3: the smallest values, with no split allowed
unfoldable pub case_fitted : Case
unfolding case
case_fitted =
    case (1 ∷ 0 ∷ 2 ∷ 2 ∷ 3 ∷ 4 ∷ 0 ∷ 5 ∷ 2 ∷ 0 ∷ 0 ∷ 0 ∷ 4 ∷ 4 ∷ 0 ∷ 5 ∷ 1 ∷ 0 ∷ 0 ∷ 0 ∷ 6 ∷ [])
    0 0 0 0 0 1 (2 ∷ 3 ∷ [])

-- an empty starting set for a position that has one: 26 before 27
unfoldable pub case_empty_start : Case
unfolding case
case_empty_start =
    case (1 ∷ 0 ∷ 2 ∷ 2 ∷ 2 ∷ 4 ∷ 0 ∷ 5 ∷ 1 ∷ 0 ∷ 0 ∷ 0 ∷ 1 ∷ 4 ∷ 0 ∷ 5 ∷ 1 ∷ 0 ∷ 0 ∷ 0 ∷ 0 ∷ [])
    1000000 26 13 0 0 0 ([])

-- the same set again for a position that has it
unfoldable pub case_second_start : Case
unfolding case
case_second_start =
    case (1 ∷ 0 ∷ 2 ∷ 2 ∷ 2 ∷ 4 ∷ 0 ∷ 5 ∷ 1 ∷ 0 ∷ 0 ∷ 0 ∷ 1 ∷ 4 ∷ 0 ∷ 5 ∷ 1 ∷ 0 ∷ 0 ∷ 0 ∷ 1 ∷ [])
    1000000 27 13 0 0 0 ([])

-- all four
unfoldable pub started : List Case
started = case_not_fitted ∷ case_fitted ∷ case_empty_start ∷ case_second_start ∷ []

-- ---- R-12: at most k

-- at most one of three positions is in {1}, and at most one in {2}, n 2: the third position has neither
unfoldable pub case_two_buses : Case
unfolding case
case_two_buses =
    case (1 ∷ 0 ∷ 2 ∷ 3 ∷ 2 ∷ 5 ∷ 0 ∷ 8 ∷ 1 ∷ 0 ∷ 0 ∷ 0 ∷ 1 ∷ 1 ∷ 2 ∷ 3 ∷ 5 ∷ 0 ∷ 8 ∷ 1 ∷ 0 ∷ 0 ∷ 0 ∷ 2 ∷ 1 ∷ 2 ∷ 3 ∷ [])
    1000000 1 0 1 2 1 ([])

-- position 1 starts at {1, 2}, and at most one of 1 and 2 is in {1, 2}, n 3: a room of two values counts too, and 2 is cut to {3}
unfoldable pub case_wide_inside : Case
unfolding case
case_wide_inside =
    case (1 ∷ 0 ∷ 2 ∷ 2 ∷ 3 ∷ 4 ∷ 0 ∷ 5 ∷ 1 ∷ 0 ∷ 0 ∷ 0 ∷ 3 ∷ 5 ∷ 0 ∷ 7 ∷ 1 ∷ 0 ∷ 0 ∷ 0 ∷ 3 ∷ 1 ∷ 2 ∷ [])
    0 0 0 0 0 2 (1 ∷ 3 ∷ [])

-- position 1 starts at {3}, and at most two of four are in {3}, n 3: position 1 is live with one value, and step 4 passes it over
unfoldable pub case_one_value_live : Case
unfolding case
case_one_value_live =
    case (1 ∷ 0 ∷ 2 ∷ 4 ∷ 3 ∷ 4 ∷ 0 ∷ 5 ∷ 1 ∷ 0 ∷ 0 ∷ 0 ∷ 4 ∷ 5 ∷ 0 ∷ 9 ∷ 2 ∷ 0 ∷ 0 ∷ 0 ∷ 4 ∷ 1 ∷ 2 ∷ 3 ∷ 4 ∷ [])
    1000000 0 0 2 0 1 (3 ∷ 1 ∷ 1 ∷ 1 ∷ [])

-- starts {1, 2}, {1, 3} and {1, 3}, and at most two are in {1, 2}: rooms that meet the set are not counted as inside
unfoldable pub case_partly_inside : Case
unfolding case
case_partly_inside =
    case (1 ∷ 0 ∷ 2 ∷ 3 ∷ 3 ∷ 4 ∷ 0 ∷ 5 ∷ 1 ∷ 0 ∷ 0 ∷ 0 ∷ 3 ∷ 4 ∷ 0 ∷ 5 ∷ 2 ∷ 0 ∷ 0 ∷ 0 ∷ 5 ∷ 4 ∷ 0 ∷ 5 ∷ 3 ∷ 0 ∷ 0 ∷ 0 ∷ 5 ∷ 5 ∷ 0 ∷ 8 ∷ 2 ∷ 0 ∷ 0 ∷ 0 ∷ 3 ∷ 1 ∷ 2 ∷ 3 ∷ [])
    1000000 0 0 2 0 1 (1 ∷ 1 ∷ 3 ∷ [])

-- none of 1 may be in {1, 2}, n 2: its field is dead from the start
unfoldable pub case_none_allowed : Case
unfolding case
case_none_allowed =
    case (1 ∷ 0 ∷ 2 ∷ 2 ∷ 2 ∷ 5 ∷ 0 ∷ 6 ∷ 0 ∷ 0 ∷ 0 ∷ 0 ∷ 3 ∷ 1 ∷ [])
    1000000 1 5 0 1 1 ([])

-- a position above v, named twice: 19
unfoldable pub case_position_above : Case
unfolding case
case_position_above =
    case (1 ∷ 0 ∷ 2 ∷ 2 ∷ 2 ∷ 5 ∷ 0 ∷ 7 ∷ 1 ∷ 0 ∷ 0 ∷ 0 ∷ 1 ∷ 3 ∷ 3 ∷ [])
    1000000 19 5 0 0 0 ([])

-- a value above n before a position above v: 20
unfoldable pub case_set_above : Case
unfolding case
case_set_above =
    case (1 ∷ 0 ∷ 2 ∷ 2 ∷ 2 ∷ 5 ∷ 0 ∷ 6 ∷ 1 ∷ 0 ∷ 0 ∷ 0 ∷ 4 ∷ 3 ∷ [])
    1000000 20 5 0 0 0 ([])

-- a position named twice: 36
unfoldable pub case_named_twice : Case
unfolding case
case_named_twice =
    case (1 ∷ 0 ∷ 2 ∷ 2 ∷ 2 ∷ 5 ∷ 0 ∷ 7 ∷ 1 ∷ 0 ∷ 0 ∷ 0 ∷ 1 ∷ 1 ∷ 1 ∷ [])
    1000000 36 5 0 0 0 ([])

-- a position named twice before one above v: 19 of every position comes first
unfoldable pub case_twice_and_above : Case
unfolding case
case_twice_and_above =
    case (1 ∷ 0 ∷ 2 ∷ 2 ∷ 2 ∷ 5 ∷ 0 ∷ 8 ∷ 1 ∷ 0 ∷ 0 ∷ 0 ∷ 1 ∷ 1 ∷ 1 ∷ 3 ∷ [])
    1000000 19 5 0 0 0 ([])

-- all nine
unfoldable pub at_mosts : List Case
at_mosts = case_two_buses ∷ case_wide_inside ∷ case_one_value_live ∷ case_partly_inside ∷ case_none_allowed ∷ case_position_above ∷ case_set_above ∷ case_named_twice ∷ case_twice_and_above ∷ []

-- ---- R-14: rules added late in the day

-- the values of positions 2 and 5 are {1, 2, 3}, v 5: two positions never have three values
unfoldable pub late_bytes : List ℕ
late_bytes = 1 ∷ 0 ∷ 2 ∷ 5 ∷ 3 ∷ 3 ∷ 0 ∷ 6 ∷ 0 ∷ 0 ∷ 0 ∷ 7 ∷ 2 ∷ 5 ∷ []

-- at most one of positions 1, 3, 4 and 5 is in {2}, as the field that is added
unfoldable pub late_field : List ℕ
late_field = 5 ∷ 0 ∷ 9 ∷ 1 ∷ 0 ∷ 0 ∷ 0 ∷ 2 ∷ 1 ∷ 3 ∷ 4 ∷ 5 ∷ []

-- NONE with the one split that is allowed
unfoldable pub case_late_none : Case
unfolding case
case_late_none = case late_bytes 1 1 0 1 2 1 ([])

-- with the field behind, position 1 is split first, and one split is not enough: UNDECIDED at the same allowance
unfoldable pub case_late_undecided : Case
unfolding case
case_late_undecided = case (late_bytes ++ late_field) 1 2 0 1 0 1 ([])

-- with the four that it needs it is NONE again, with other counts
unfoldable pub case_late_again : Case
unfolding case
case_late_again = case (late_bytes ++ late_field) 4 1 0 4 5 1 ([])

-- [p1{1}] and [p1{2}], n 2: the second field is dead
unfoldable pub place_bytes : List ℕ
place_bytes = 1 ∷ 0 ∷ 2 ∷ 1 ∷ 2 ∷ 2 ∷ 0 ∷ 5 ∷ 1 ∷ 0 ∷ 0 ∷ 0 ∷ 1 ∷ 2 ∷ 0 ∷ 5 ∷ 1 ∷ 0 ∷ 0 ∷ 0 ∷ 2 ∷ []

-- position 1 starts at {2}, as the field that is added
unfoldable pub place_field : List ℕ
place_field = 4 ∷ 0 ∷ 5 ∷ 1 ∷ 0 ∷ 0 ∷ 0 ∷ 2 ∷ []

-- NONE at the second field
unfoldable pub case_place_before : Case
unfolding case
case_place_before = case place_bytes 1000000 1 13 0 1 1 ([])

-- with the starting set behind, the first field is dead: the place moves
unfoldable pub case_place_moved : Case
unfolding case
case_place_moved = case (place_bytes ++ place_field) 1000000 1 5 0 1 1 ([])

-- all five
unfoldable pub late : List Case
late = case_late_none ∷ case_late_undecided ∷ case_late_again ∷ case_place_before ∷ case_place_moved ∷ []
