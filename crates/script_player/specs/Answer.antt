-- Answers to the lines of a script, and the lines of the report that say them.
use Rattle.std.specs.Prelude.{ℕ, Bool, true, false, List, ◌++◌, codes, decimal}
use Rattle.reply_text.specs.declared.reply.Reply.{Reply}
use Rattle.reply_text.specs.declared.reply.Reply.TheVariants as replies
use Rattle.reply_text.specs.Reply.{reply_words}
use Rattle.script_player.specs.Line.{Label}
use Rattle.script_player.specs.Line as lines

pub data Answer : Type 0 where
  -- the reply to a command
  Replied : Reply → Answer
  -- an update is refused, since another is under way
  Busy : Answer
  -- there is no token to be retired
  NoToken : Answer
  -- an update is done but for its retirement: a pass had a query under way, with this reader word
  Pending : ℕ → ℕ → Answer
  -- a step moved so many bodies, and kept so many as they were
  Stepped : ℕ → ℕ → Answer
  -- an actor has its command
  Ready : Answer
  -- a command has reached a label
  At : Label → Answer
  -- a command waits for a lock
  Blocked : ℕ → Answer
  -- whoever is to carry the command out has not finished another
  Unfinished : Answer
  -- there is no command to go on with
  Idle : Answer
  -- somebody has not finished a command
  Actors : Answer

-- it ends a command
abbrev pub is_last : Answer → Bool
is_last (Replied reply) = true
is_last Busy = true
is_last NoToken = true
is_last (Pending pass count) = true
is_last (Stepped moved kept) = true
is_last answer = false

-- a command has begun, and is not finished
abbrev pub is_under_way : Answer → Bool
is_under_way Ready = true
is_under_way (At label) = true
is_under_way (Blocked lock) = true
is_under_way answer = false

abbrev pub is_done : Answer → Bool
is_done (Replied replies.Done) = true
is_done answer = false

-- ---- text

abbrev pub label_text : Label → List ℕ
label_text lines.Slots = codes "slots"
label_text lines.Root = codes "root"
label_text lines.Walked = codes "walked"
label_text lines.Marked = codes "marked"
label_text lines.Leaf = codes "leaf"
label_text lines.Widened = codes "widened"
label_text lines.Out = codes "out"
label_text lines.Planned = codes "planned"
label_text lines.Built = codes "built"
label_text lines.Swapped = codes "swapped"
label_text lines.Cleared = codes "cleared"
label_text lines.Promoted = codes "promoted"

abbrev pub answer_words : Answer → List ℕ
answer_words (Replied reply) = reply_words reply
answer_words Busy = codes "refused busy"
answer_words NoToken = codes "refused idle"
answer_words (Pending pass count) = codes "pending " ++ decimal pass ++ codes " " ++ decimal count
answer_words (Stepped moved kept) = codes "step " ++ decimal moved ++ codes " " ++ decimal kept ++ codes " ok"
answer_words Ready = codes "ready"
answer_words (At label) = codes "at " ++ label_text label
answer_words (Blocked lock) = codes "blocked " ++ decimal lock
answer_words Unfinished = codes "refused unfinished"
answer_words Idle = codes "refused idle"
answer_words Actors = codes "refused actors"

abbrev pub answer_text : Answer → List ℕ
answer_text answer = answer_words answer ++ codes "\n"
