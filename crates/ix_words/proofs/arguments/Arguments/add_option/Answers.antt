use Rattle.ix_words.proofs.Keeping.{adds_seed, adds_moves, adds_rounds, adds_trials, adds_placed}
use Rattle.ix_words.proofs.arguments.Arguments.add_option.Goals as goal

pub returns-in-Seed : goal.returns-in-Seed
returns-in-Seed c = adds_seed c.args.self.now c.with_value-self.result c.args.option
    c.args.value.now c.in-Seed.is c.with_value-self.ensures

pub returns-in-Moves : goal.returns-in-Moves
returns-in-Moves c = adds_moves c.args.self.now c.with_value-self-in-Moves.result c.args.option
    c.args.value.now c.in-Moves.is c.with_value-self-in-Moves.ensures

pub returns-in-Rounds : goal.returns-in-Rounds
returns-in-Rounds c = adds_rounds c.args.self.now c.with_value-self-in-Rounds.result c.args.option
    c.args.value.now c.in-Rounds.is c.with_value-self-in-Rounds.ensures

pub returns-in-Trials : goal.returns-in-Trials
returns-in-Trials c = adds_trials c.args.self.now c.with_value-self-in-Trials.result c.args.option
    c.args.value.now c.in-Trials.is c.with_value-self-in-Trials.ensures

pub returns-in-Placed : goal.returns-in-Placed
returns-in-Placed c = adds_placed c.args.self.now c.with_value-self-in-Placed.result c.args.option
    c.args.value.now c.in-Placed.is c.with_value-self-in-Placed.ensures
