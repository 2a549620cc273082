use Rattle.reducer_values.proofs.Looked.{folder_two, other_target}
use Rattle.reducer_values.proofs.looking.is_reducer_function.Goals as goal

pub returns-in-Folder : goal.returns-in-Folder
returns-in-Folder c = folder_two c.args.function.now c.in-Folder.field-0 c.len.result c.in-Folder.is c.len.ensures.same

pub returns-in_default : goal.returns-in_default
returns-in_default c = other_target c.args.function.now c.in_default.not-Folder
