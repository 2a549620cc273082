use Rattle.stage_tests.proofs.states.given_back.Goals as goal

pub restored-requires : goal.restored-requires
restored-requires c = rw c.requires at c.in_ok-states.ensures
