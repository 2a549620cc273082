use Rattle.std.proofs.Common.{None, Some}
use Rattle.clj_script.specs.declared.words.Reserved.TheVariants.{Outside}
use Rattle.clj_script.specs.Entries.{form_at}
use Rattle.clj_script.proofs.ReadingLemmas.{nothing_read, headed_read, special_read}
use Rattle.clj_script.proofs.reading.read.Goals as goal

pub returns-in_default-clause-read : goal.returns-in_default-clause-read
returns-in_default-clause-read c = nothing_read (form_at c.args.sources.now) c.args.items.now c.in_default.len_below

pub returns-in-None-clause-read : goal.returns-in-None-clause-read
returns-in-None-clause-read c = headed_read (form_at c.args.sources.now) c.args.items.now None c.in-len1-up.len_at_least c.in-None.ensures

pub returns-in-Some-Outside-clause-read : goal.returns-in-Some-Outside-clause-read
returns-in-Some-Outside-clause-read c = headed_read (form_at c.args.sources.now) c.args.items.now (Some Outside) c.in-len1-up.len_at_least (cc)

pub returns-in-Some-Special-clause-read : goal.returns-in-Some-Special-clause-read
returns-in-Some-Special-clause-read c = special_read _ c.args.items.now _ c.in-Some-Special.special _ c.in-len1-up.len_at_least (cc) c.in-Some-Special.special-is c.special_reading.ensures.read
