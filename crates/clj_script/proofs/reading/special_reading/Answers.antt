use Rattle.clj_script.proofs.reading.special_reading.Goals as goal

pub returns-in-If-clause-below : goal.returns-in-If-clause-below
returns-in-If-clause-below c = c.if_reading.ensures.below _ c.requires.below

pub returns-in-When-clause-below : goal.returns-in-When-clause-below
returns-in-When-clause-below c = c.when_reading.ensures.below _ c.requires.below

pub returns-in-LazySeq-clause-below : goal.returns-in-LazySeq-clause-below
returns-in-LazySeq-clause-below c = c.lazy_reading.ensures.below _ c.requires.below

pub returns-in-ThreadSecond-clause-below : goal.returns-in-ThreadSecond-clause-below
returns-in-ThreadSecond-clause-below c = c.threaded.ensures.below _ c.requires.below

pub returns-in-ThreadLast-clause-below : goal.returns-in-ThreadLast-clause-below
returns-in-ThreadLast-clause-below c = c.threaded-in-ThreadLast.ensures.below _ c.requires.below
