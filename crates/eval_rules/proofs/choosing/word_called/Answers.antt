use Rattle.eval_rules.proofs.choosing.word_called.Goals as goal

pub plain_word-requires : goal.plain_word-requires
plain_word-requires c = (c.in_default.not-Reduce, c.in_default.not-Into, c.in_default.not-Fold, c.in_default.not-Pmap, c.in_default.not-Seque)
