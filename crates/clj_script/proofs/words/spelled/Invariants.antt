use Rattle.std.proofs.Common.{◌≡◌, map, drop}
use Rattle.clj_script.specs.Words as spec
use Rattle.clj_script.proofs.words.spelled.Given as goal

abbrev pub invariant-loop-word : goal.invariant-loop-word
invariant-loop-word g l = spec.spelled (map (λ line. (line.0.now, line.1)) (drop l.word-index l.table)) l.spelling ≡ spec.spelled (map (λ line. (line.0.now, line.1)) l.table) l.spelling
