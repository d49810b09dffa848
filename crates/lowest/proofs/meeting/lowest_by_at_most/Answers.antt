-- `lowest::meeting::lowest_by_at_most` meets its contract: nothing where the rule is settled, else by the rooms that meet its set. Assumes nothing.
use Rattle.std.proofs.Common.{◌∙◌}
use Rattle.at_most.proofs.RuleLooks.{positions_fit}
use Rattle.lowest.proofs.AtMostParts.{lowest-settled, lowest_by_meeting}
use Rattle.lowest.proofs.meeting.lowest_by_at_most.Goals as goal

pub returns-then-settled_at_most : goal.returns-then-settled_at_most
returns-then-settled_at_most c = lowest-settled c.args.rooms.now.box c.args.content.now c.args.bound c.if-settled_at_most.ensures

pub lowest_meeting-requires : goal.lowest_meeting-requires
lowest_meeting-requires c = positions_fit c.args.content.now c.of-rule.ensures c.requires

pub returns : goal.returns
returns c = c.lowest_meeting.ensures ∙ lowest_by_meeting c.args.rooms.now.box c.args.content.now c.args.bound c.of-rule.ensures c.if-settled_at_most.ensures
