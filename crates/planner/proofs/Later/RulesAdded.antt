-- Adding rules late in the day (R-14), of any replies and buffers that the promise allows. Of two calls, on the bytes of a file and on these with more bytes behind them: NONE stays NONE
-- where it is decided, and a plan is not earlier (`rules-added`). One field more is such bytes (`field-added`). It goes by what rules mean together, and looks at no kind of rule.
-- Assumes nothing.
use mathlib.Core.Path.{◌≡◌, subst}
use mathlib.Core.List.{List, ◌++◌}
use Prim.Native.Nat.{ℕ, ◌<◌}
use native.Mathlib.Decide.{ℕ_discrete}
use native.Mathlib.Omega.{arith}
use lib.ListN.{take}
use Rattle.lists.specs.Lists.{Every}
use Rattle.rules.specs.Rules.{Rule, File}
use Rattle.rules.specs.Reading.{sound, reading}
use Rattle.rules.specs.Writing.{written_rule}
use Rattle.rules.specs.Added.{added}
use Rattle.rules.proofs.AddedRules.{added_plans, added-first}
use Rattle.rules.proofs.Writing.AddedLaws.{read-added}
use Rattle.searching.specs.declared.reply.Reply.{Reply}
use Rattle.planner.specs.Promise.{Accepted, Planned}
use Rattle.planner.specs.Later.{Decided, RulesAdded}
use Rattle.planner.proofs.EveryReply.{accepted_call, accepted_file}

module _ (input before after : List ℕ) (allowed : ℕ) (r : Reply) (promised : Planned input before after allowed r) (file : File) (read : reading input ≡ sound file) where
  -- a call that was decided was accepted: the first for the file
  first_call : Decided r → Accepted input before allowed file
  first_call decided = accepted_file input before after allowed r promised (omega (arith, decided)) file read

  module _ (tail : List ℕ) (bytes : Every (λ b. b < 256) (input ++ tail)) (before' later : List ℕ) (allowed' : ℕ) (s : Reply)
      (promised' : Planned (input ++ tail) before' later allowed' s) where
    -- the later one for the file with rules added
    later_call : Decided s → (more : List Rule) × Accepted (input ++ tail) before' allowed' (added file more)
    later_call decided =
        let call = accepted_call (input ++ tail) before' later allowed' s promised' (omega (arith, decided)) in
        let found = read-added input tail bytes file call.0 read call.1.read in
        (found.0, subst (Accepted (input ++ tail) before' allowed') found.1 call.1)

    -- a plan with the rules added is a plan without them
    no-plan : r.number ≡ 1 → s.number ≡ 0 → ⊥
    no-plan one zero =
        let call = later_call (omega arith) in
        let found = ((promised'.plan (added file call.0) call.1).0 zero).0 in
        ((promised.none file (first_call (omega arith))).0 one).0 found.0 ((added_plans file call.0 found.0).0 found.1).0

    -- both sentences
    pub rules-added : RulesAdded file.v r after s later
    unfolding added
    rules-added = record {
      none = λ one decided. go decided (ℕ_discrete s.number 0) one;
      plan = λ zero zero'.
          let call = later_call (omega arith) in
          added-first file call.0 (take file.v after) (take file.v later) (promised.first file (first_call (omega arith)) zero)
          (promised'.first (added file call.0) call.1 zero');
    }
      where
        go : Decided s → Dec (s.number ≡ 0) → r.number ≡ 1 → s.number ≡ 1
        go decided (yes zero) one = absurd (no-plan one zero)
        go decided (no other) one = omega arith

  -- one field more, of tag 2, 3, 4 or 5
  pub field-added : (rule : Rule) → Every (λ b. b < 256) (input ++ written_rule rule) → (before' later : List ℕ) (allowed' : ℕ) (s : Reply)
      → Planned (input ++ written_rule rule) before' later allowed' s → RulesAdded file.v r after s later
  field-added rule = rules-added (written_rule rule)
