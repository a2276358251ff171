-- Page frames under other numbers: a permutation of the numbers, and what it makes of contents, machines and replies.
use Rattle.std.specs.Prelude.{◌≡◌, ℕ, ◌≤◌, true, map, Some}
use Rattle.std.specs.Option.{option_map}
use Rattle.vm_model.specs.Contents.Content.{Page, Content}
use Rattle.vm_model.specs.Naming.Pins.{is_pinned}
use Rattle.vm_model.specs.Machine.Words.{Reply}
use Rattle.vm_model.specs.declared.reply.Reply.TheVariants.{Pins}
use Rattle.vm_model.specs.Machine.State.{State}
use Rattle.vm_model.specs.Machine.Access.{Memory}
use Rattle.vm_model.specs.Machine.Machine.{Machine}

-- each number has another one, or its own, and comes from one number alone
pub record Renaming : Type 0 where
  pub to : ℕ → ℕ
  pub back : ℕ → ℕ
  pub there : (t : ℕ) → back (to t) ≡ t
  pub again : (t : ℕ) → to (back t) ≡ t

-- only numbers below the bound get another one, so it is a permutation of these
abbrev pub KeepsFrom : Renaming → ℕ → Type 0
KeepsFrom r bound = (t : ℕ) → bound ≤ t → r.to t ≡ t

-- a page in the frame that its own is renamed to
abbrev pub page_renamed : Renaming → Page → Page
page_renamed r held = record held { tag = r.to held.tag }

abbrev pub content_renamed : Renaming → Content → Content
content_renamed r c = record c { page = λ v p. option_map (page_renamed r) (c.page v p) }

abbrev pub state_renamed : Renaming → State → State
state_renamed r s = record s { content = content_renamed r s.content }

-- what is ready stays so
abbrev pub machine_renamed : Renaming → Machine → Machine
machine_renamed r m = record m { state = state_renamed r m.state }

abbrev pub memory_renamed : Renaming → Memory → Memory
memory_renamed r m = record m { content = content_renamed r m.content }

-- of all replies, that to a pin alone has numbers of frames
abbrev pub reply_renamed : Renaming → Reply → Reply
reply_renamed r (Pins numbers) = Pins (map r.to numbers)
reply_renamed r reply = reply

-- pinned pages keep their frames
abbrev pub KeepsPinned : Renaming → State → Type 0
KeepsPinned r s = (v p : ℕ) (held : Page) → is_pinned s.pins v p ≡ true → s.content.page v p ≡ Some held → r.to held.tag ≡ held.tag
