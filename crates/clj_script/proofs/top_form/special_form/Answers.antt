use Rattle.clj_script.proofs.top_form.special_form.Goals as goal

pub returns-in-Prn-clause-below : goal.returns-in-Prn-clause-below
returns-in-Prn-clause-below c = c.prn_form.ensures.below _ c.requires.below
