-- What a pass has that holds the lock of a body.
use Rattle.core_state.specs.declared.view.Mode.TheVariants.{Read, Write}
use Rattle.core_state.specs.declared.view.View.{View}
use Rattle.pass_table.specs.Bodies.{IsAlone}
use Rattle.body_lock.specs.declared.body_read.BodyRead.{BodyRead}
use Rattle.body_lock.specs.declared.body_write.BodyWrite.{BodyWrite}

-- the guards are good for this view
abbrev pub IsReading : BodyRead → View → Type 0
IsReading guard view = IsAlone guard.number guard.id Read view

abbrev pub IsWriting : BodyWrite → View → Type 0
IsWriting guard view = IsAlone guard.number guard.id Write view
