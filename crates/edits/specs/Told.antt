-- What the code's edits say, in the words of `scope`
use Rattle.scope.specs.Summary as summaries
use Rattle.edits.specs.declared.edit.Edit.{Edit}
use Rattle.edits.specs.declared.edit.Edit.TheVariants.{Move, Add, Remove}

abbrev pub edit_of : Edit → summaries.Edit
edit_of (Move i s e) = summaries.Edit.move i s e
edit_of (Add i s e o) = summaries.Edit.add i s e o
edit_of (Remove i) = summaries.Edit.remove i
