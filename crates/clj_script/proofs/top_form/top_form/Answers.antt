use Rattle.std.proofs.Common.{None, Some}
use Rattle.clj_script.specs.declared.words.Reserved.TheVariants.{Outside}
use Rattle.clj_script.specs.Entries.{form_at}
use Rattle.clj_script.proofs.TopFormLemmas.{stray_read, headless_read, headed_top, special_plain, special_top}
use Rattle.clj_script.proofs.top_form.top_form.Goals as goal

pub returns-in_default-clause-read : goal.returns-in_default-clause-read
returns-in_default-clause-read c = stray_read _ c.in_default.ensures

pub returns-in_default-items-clause-read : goal.returns-in_default-items-clause-read
returns-in_default-items-clause-read c = headless_read (form_at c.args.sources.now) _ c.in-Some.items.now c.in-Some.ensures.0 c.in_default-items.len_below

pub special_form-requires-clause-plain : goal.special_form-requires-clause-plain
special_form-requires-clause-plain c = special_plain (form_at c.args.sources.now) _ c.in-Some.items.now _ c.in-Some.ensures.0 c.in-len1-up.len_at_least (cc) c.requires.plain

pub returns-in-Some-Special-clause-read : goal.returns-in-Some-Special-clause-read
returns-in-Some-Special-clause-read c = special_top _ _ c.in-Some.items.now _ c.in-Some-Special.special _ c.in-Some.ensures.0 c.in-len1-up.len_at_least (cc) c.in-Some-Special.special-is c.special_form.ensures.read

pub returns-in-None-clause-read : goal.returns-in-None-clause-read
returns-in-None-clause-read c = headed_top (form_at c.args.sources.now) _ c.in-Some.items.now None c.in-Some.ensures.0 c.in-len1-up.len_at_least c.in-None.ensures

pub returns-in-Some-Outside-clause-read : goal.returns-in-Some-Outside-clause-read
returns-in-Some-Outside-clause-read c = headed_top (form_at c.args.sources.now) _ c.in-Some.items.now (Some Outside) c.in-Some.ensures.0 c.in-len1-up.len_at_least (cc)
