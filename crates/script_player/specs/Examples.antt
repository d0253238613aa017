-- Two small stories, told whole: a query of an actor that is answered late, and a block of two sections.
use Rattle.std.specs.Prelude.{ℕ, List, [], ◌∷◌, ◌++◌, Some, codes, decimal}
use Rattle.std.specs.List.{flat_map}
use Rattle.word_map.specs.declared.config.Config.{Config}
use Rattle.fixed_box.specs.declared.fix_box.FixBox.{FixBox}
use Rattle.scene_model.specs.declared.entry.Entry.{Entry}
use Rattle.scene_model.specs.declared.entry.Entry.TheVariants as entries
use Rattle.scene_model.specs.declared.entry.Made.{Made}
use Rattle.script_text.specs.declared.command.Command.TheVariants as commands
use Rattle.reply_text.specs.declared.reply.Reply.TheVariants as replies
use Rattle.reply_text.specs.Reply.{reply_text}
use Rattle.script_player.specs.Report.{end_text_of}
use Rattle.script_player.specs.Span.{Span}
use Rattle.script_player.specs.Line.{Plan, Order, Own, Start, Block, Plain}
use Rattle.script_player.specs.Answer.{Answer, Replied, Ready}
use Rattle.script_player.specs.Event.{Event}

abbrev pub small_world : Config
small_world = record { bodies = 4; stripes = 1; layers = 1; slots = 1; nodes = 4; passes = 3 }

-- a body is created
abbrev pub created : FixBox → Order
created bounds = Plain (commands.Create (codes "a") 0 bounds 7)

abbrev pub entry_of_a : FixBox → Entry
entry_of_a bounds = entries.Create 0 0 bounds 7

-- bodies are asked for
abbrev pub asked : FixBox → Order
asked bounds = Plain (commands.QueryBox 1 bounds)

abbrev pub whole_span : Span
whole_span = record { from = 0; to = 1 }

abbrev pub span_before : Span
span_before = record { from = 0; to = 0 }

-- ---- an actor has a query, main creates a body, and at the end of the script the query is answered

abbrev pub late_plan : FixBox → Plan
late_plan bounds = record { world = small_world; actors = codes "q" ∷ []; lines = Start 1 (asked bounds) ∷ Own (created bounds) ∷ [] }

abbrev pub late_history : FixBox → List Made
late_history bounds = record { pass = 0; entry = entry_of_a bounds } ∷ []

abbrev pub query_told : FixBox → ℕ → Answer → Span → Event
query_told bounds answered answer span = record {
  caller = 1;
  pass = 1;
  given = 0;
  answered = answered;
  order = Some (asked bounds);
  answer = answer;
  span = span;
  made = [];
  lanes = [];
}

abbrev pub create_told : FixBox → Event
create_told bounds = record {
  caller = 0;
  pass = 0;
  given = 1;
  answered = 1;
  order = Some (created bounds);
  answer = Replied (replies.Id (record { index = 0; seq = 1 }));
  span = whole_span;
  made = entry_of_a bounds ∷ [];
  lanes = [];
}

abbrev pub late_told : FixBox → List Event
late_told bounds = query_told bounds 0 Ready span_before ∷ create_told bounds ∷ query_told bounds 2 (Replied (replies.Hits [])) whole_span ∷ []

-- the lines of a report, above that of one live body
abbrev pub small_report : List (List ℕ) → List ℕ
small_report lines = flat_map (λ line. line) lines ++ end_text_of 1 0

abbrev pub first_id : List ℕ
first_id = reply_text (replies.Id (record { index = 0; seq = 1 }))

abbrev pub late_report : List ℕ
late_report = small_report (codes "ready\n" ∷ first_id ∷ codes "q hits -\n" ∷ [])

-- the answer is left out
abbrev pub never_report : List ℕ
never_report = small_report (codes "ready\n" ∷ first_id ∷ [])

abbrev pub never_told : FixBox → List Event
never_told bounds = query_told bounds 0 Ready span_before ∷ create_told bounds ∷ []

-- ---- one section creates a body, the other asks for bodies

abbrev pub block_plan : FixBox → Plan
block_plan bounds = record { world = small_world; actors = []; lines = Block ((created bounds ∷ []) ∷ (asked bounds ∷ []) ∷ []) ∷ [] }

abbrev pub block_history : FixBox → List Made
block_history bounds = record { pass = 1; entry = entry_of_a bounds } ∷ []

abbrev pub section_create : FixBox → Event
section_create bounds = record {
  caller = 1;
  pass = 1;
  given = 0;
  answered = 0;
  order = Some (created bounds);
  answer = Replied (replies.Id (record { index = 0; seq = 1 }));
  span = whole_span;
  made = entry_of_a bounds ∷ [];
  lanes = [];
}

abbrev pub section_query : FixBox → ℕ → Event
section_query bounds pass = record {
  caller = 2;
  pass = pass;
  given = 0;
  answered = 0;
  order = Some (asked bounds);
  answer = Replied (replies.Hits []);
  span = whole_span;
  made = [];
  lanes = [];
}

-- the query is carried out by this pass; that of its worker is 2
abbrev pub block_told : FixBox → ℕ → List Event
block_told bounds pass = section_create bounds ∷ section_query bounds pass ∷ []

abbrev pub block_report : List ℕ
block_report = small_report (((codes "w" ++ decimal 0 ++ codes " ") ++ first_id) ∷ ((codes "w" ++ decimal 1 ++ codes " ") ++ codes "hits -\n") ∷ [])
