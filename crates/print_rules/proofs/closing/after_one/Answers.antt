use Rattle.print_rules.proofs.closing.after_one.Goals as goal

pub returns-in-Elements-clause-goes : goal.returns-in-Elements-clause-goes
returns-in-Elements-clause-goes c = rw c.in-Elements.is c.after_element.ensures.goes
