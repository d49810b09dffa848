-- `boxes::shrink::look_field` meets its contract: a look at a clause or a starting set is one at its rule. Assumes nothing.
use Rattle.std.proofs.Common.{ℕ, List, ◌≡◌, subst, length, rules}
use Rattle.rules.specs.declared.field.Tag.{Tag}
use Rattle.rules.specs.declared.field.Tag.TheVariants.{Starting}
use Rattle.rules.specs.Contents.{ContentFits}
use Rattle.boxes.proofs.FieldLooks.{look_clause-of, look_start-of}
use Rattle.boxes.proofs.shrink.look_field.Goals as goal

-- a starting set has five bytes
five : (kind : Tag) (v : ℕ) (content : List ℕ) → ContentFits kind v (length content) content → kind ≡ Starting → length content ≡ 5
five kind v content fits e = (subst (λ (k : Tag). ContentFits k v (length content) content) e fits).0

pub returns-in-Clause : goal.returns-in-Clause
returns-in-Clause c = look_clause-of c.args.field.content.now c.in-Clause.is c.look_atoms.ensures.leaves

pub returns-in-Starting : goal.returns-in-Starting
returns-in-Starting c =
    let f = c.args.field in
    look_start-of f.content.now c.in-Starting.is (five f.kind (length c.args.rooms.now.box) f.content.now c.requires c.in-Starting.is) (search rules)
