-- What a map answers to the lines of a trace of the index.
use Rattle.std.specs.Prelude.{◌≡◌, ◌⊎◌, ℕ, ◌-◌, ◌*◌, ◌/◌, Bool, true, false, IsTrue, List, [], ◌∷◌, ◌++◌, length, Option, None, Some}
use Rattle.envy_base.specs.declared.faults.PlannedFault.{PlannedFault}
use Rattle.envy_base.specs.declared.faults.PlannedFault.TheVariants.{Cut as PlanCut, Bad as PlanBad}
use Rattle.envy_btree.specs.declared.line.IndexLine.{IndexLine}
use Rattle.envy_btree.specs.declared.line.IndexLine.TheVariants.{Empty, Get, Insert, Remove, Power, Cut, Bad}
use Rattle.envy_btree.specs.declared.reply.IndexReply.{IndexReply}
use Rattle.envy_btree.specs.declared.reply.IndexReply.TheVariants.{Value, Missing, Full, Fault as IsFault, Lost as IsLost, Restarted, Armed}
use Rattle.envy_btree.specs.Grammar.{index_line_of}
use Rattle.envy_btree.specs.Pairs.{assoc, with_pair, without}
use Rattle.envy_btree.specs.Replies.{index_bytes}
use Rattle.envy_io.specs.Lines.{newline}
use Rattle.envy_serve.specs.Grammar.{Grammar}
use Rattle.envy_serve.specs.Turns.{Turn, Leads}
use Rattle.envy_base.specs.declared.page.TheConstants.{PAGE_WORDS}

-- a finite map, as its pairs by rising key
abbrev pub Pairs : Type 0
Pairs = List (ℕ × ℕ)

-- how lines and replies are spelled
abbrev pub index_grammar : Grammar IndexLine IndexReply
index_grammar = record { reads = index_line_of; text = λ reply. index_bytes reply ++ newline ∷ [] }

-- a line of a trace and the replies to it
abbrev pub IndexTurn : Type 0
IndexTurn = Turn IndexLine IndexReply

-- the most pairs of a map in the words of so many pages: 14 for each piece of 64 words but eight
abbrev pub most_of : ℕ → ℕ
most_of pages = 14 * ((PAGE_WORDS * pages - 64) / 64 - 8)

-- the reply that tells a value, or that there is none
abbrev pub told : Option ℕ → IndexReply
told None = Missing
told (Some value) = Value value

-- the key isn't in the map, and the map may have no more pairs
abbrev pub IsFull : ℕ → ℕ → Pairs → Type 0
IsFull most key es = (assoc key es ≡ None) × (length es ≡ most)

-- the map's own answer to a line, and the map that the line leaves
abbrev pub Says : ℕ → Pairs → IndexLine → IndexReply → Pairs → Type 0
Says most es (Get key) reply n = (reply ≡ told (assoc key es)) × (n ≡ es)
Says most es (Insert key value) reply n = (IsFull most key es × (reply ≡ Full) × (n ≡ es)) ⊎ ((IsFull most key es → ⊥) × (reply ≡ told (assoc key es)) × (n ≡ with_pair key value es))
Says most es (Remove key) reply n = (reply ≡ told (assoc key es)) × (n ≡ without key es)
Says most es (Cut k g) reply n = (reply ≡ Armed) × (n ≡ es)
Says most es (Bad k g) reply n = (reply ≡ Armed) × (n ≡ es)
Says most es line reply n = ⊥

-- a flash operation failed in a change that isn't refused: the map stays
abbrev pub Faults : ℕ → Pairs → IndexLine → IndexReply → Pairs → Type 0
Faults most es (Insert key value) reply n = (IsFull most key es → ⊥) × (reply ≡ IsFault) × (n ≡ es)
Faults most es (Remove key) reply n = (reply ≡ IsFault) × (n ≡ es)
Faults most es line reply n = ⊥

-- the line asks the map or changes it
abbrev pub is_command : IndexLine → Bool
is_command (Get key) = true
is_command (Insert key value) = true
is_command (Remove key) = true
is_command line = false

-- power failed in the line and returned: the map is as before the line or as after it
pub record Loses (most : ℕ) (es : Pairs) (line : IndexLine) (n : Pairs) : Type 0 where
  pub command : IsTrue (is_command line)
  pub either : (n ≡ es) ⊎ ((reply : IndexReply) × Says most es line reply n)

-- one line with its replies, from one map to another
abbrev pub DoesIndex : ℕ → Pairs → IndexLine → List IndexReply → Pairs → Type 0
DoesIndex most es line replies n =
    ((line ≡ Empty) × (replies ≡ []) × (n ≡ es))
    ⊎ (((reply : IndexReply) × (replies ≡ reply ∷ []) × (Says most es line reply n ⊎ Faults most es line reply n))
    ⊎ (((replies ≡ IsLost ∷ Restarted ∷ []) × Loses most es line n)
    ⊎ ((line ≡ Power) × (replies ≡ Restarted ∷ []) × (n ≡ es))))

-- lines with their replies, the newest first, lead from the empty map to this one
abbrev pub IndexRun : ℕ → List IndexTurn → Pairs → Type 0
IndexRun most turns es = Leads (λ earlier. DoesIndex most) [] turns es

abbrev pub is_power : IndexLine → Bool
is_power Power = true
is_power line = false

-- the line plans a failure
abbrev pub is_plan : IndexLine → Bool
is_plan (Cut k g) = true
is_plan (Bad k g) = true
is_plan line = false

-- that failure, if it does
abbrev pub plan_of : IndexLine → List PlannedFault
plan_of (Cut k g) = PlanCut k g ∷ []
plan_of (Bad k g) = PlanBad k g ∷ []
plan_of line = []

abbrev pub is_lost : IndexReply → Bool
is_lost IsLost = true
is_lost reply = false

abbrev pub is_fault : IndexReply → Bool
is_fault IsFault = true
is_fault reply = false

-- the replies that stand before power is asked for
abbrev pub before_restart : IndexLine → List IndexReply
before_restart Power = []
before_restart line = IsLost ∷ []

-- power failed in the line, or the line cut it
abbrev pub FailsIn : ℕ → Pairs → IndexLine → Pairs → Type 0
FailsIn most es line left = Loses most es line left ⊎ ((line ≡ Power) × (left ≡ es))
