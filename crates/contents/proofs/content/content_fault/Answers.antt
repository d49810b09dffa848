-- `contents::content::content_fault` meets its contract: kind by kind. Assumes nothing.
use Rattle.std.proofs.Common.{sym, ap, ◌∙◌, ⊎_elim, length, arith}
use Rattle.rules.specs.declared.field.Tag.{Tag}
use Rattle.rules.specs.Fault.{number_told}
use Rattle.rules.specs.Reading.{length_fits, rule_of, rule_fault, atoms_fault}
use Rattle.lists.proofs.TestLaws.{true_test}
use Rattle.rules.proofs.Reading.ContentLaws.{equality-length, starting-length, at_most-length}
use Rattle.contents.proofs.content.content_fault.Goals as goal

pub equality_fault-requires : goal.equality_fault-requires
equality_fault-requires c =
    let len = length c.args.content.now in
    equality-length len (true_test _ (sym (ap (λ (k : Tag). length_fits k len) c.in-Equality.is) ∙ c.requires.length_value))

pub starting_fault-requires : goal.starting_fault-requires
starting_fault-requires c =
    let len = length c.args.content.now in
    omega (arith, starting-length len (true_test _ (sym (ap (λ (k : Tag). length_fits k len) c.in-Starting.is) ∙ c.requires.length_value)))

pub at_most_fault-requires : goal.at_most_fault-requires
at_most_fault-requires c =
    let len = length c.args.content.now in
    (at_most-length len (true_test _ (sym (ap (λ (k : Tag). length_fits k len) c.in-AtMost.is) ∙ c.requires.length_value)), c.requires.v_in_bounds)

pub returns-in-Clause : goal.returns-in-Clause
unfolding rule_of rule_fault
returns-in-Clause c = rw c.in-Clause.is c.atoms_fault.ensures

pub returns-in-Header : goal.returns-in-Header
unfolding number_told rule_of rule_fault atoms_fault
returns-in-Header c = ⊎_elim (λ e. rw e) (λ e. rw e) c.in-Header.is
