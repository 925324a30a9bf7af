-- How what a command gives goes out: a file may be replaced, then a text is said, and the status tells whether all of it went out.
use Rattle.std.specs.Prelude.{◌<◌, ◌≡◌, IsSome, length, List, None, Option, Some, ℕ}
use Rattle.vm_io.specs.Loops.{SaidSome}
use Rattle.vm_io.specs.Shown.{Holds, say_more, Shown}
use Rattle.vm_endings.specs.{declared.delivery.Delivery.Delivery, declared.delivery.File.File}

-- a file's name and its bytes
pub record Written : Type 0 where
  pub name : List ℕ
  pub bytes : List ℕ

-- the file to be written, if one is, the text to be said, and the status where both went out
pub record Content : Type 0 where
  pub file : Option Written
  pub text : List ℕ
  pub status : ℕ

abbrev pub written_of : Option File → Option Written
written_of None = None
written_of (Some file) = Some (record { name = file.name.now; bytes = file.bytes.items })

abbrev pub content_of : Delivery → Content
content_of delivery = record { file = written_of delivery.file; text = delivery.text.items; status = delivery.status }

-- a text alone
abbrev pub line : List ℕ → ℕ → Content
line text status = record { file = None; text = text; status = status }

-- the file has the bytes; where none is to be written nothing changed
abbrev pub WroteAll : Option Shown → Option Shown → Option Written → Type 0
WroteAll old new None = new ≡ old
WroteAll old new (Some file) = Holds old new file.name file.bytes

-- the whole text was said
abbrev pub SaidAll : Option Shown → Option Shown → List ℕ → Type 0
SaidAll None new text = new ≡ None
SaidAll (Some old) new text = new ≡ Some (say_more old text)

-- How it went: all of it; or the file was not written, and nothing changed; or the file was written and the text said
-- only in part. In both the
-- status is 3. So a file is as it was, or has all its bytes, and nothing is said before it has them
pub data IsDelivered (content : Content) (old new : Option Shown) (status : ℕ) : Type 0 where
  whole : (written : Option Shown) → WroteAll old written content.file → SaidAll written new content.text
      → status ≡ content.status → IsDelivered content old new status
  unwritten : IsSome content.file → new ≡ old → status ≡ 3 → IsDelivered content old new status
  text_cut : (written : Option Shown) → WroteAll old written content.file → 0 < length content.text
      → SaidSome written new content.text → status ≡ 3 → IsDelivered content old new status

-- all of it went out
pub record WentOut (content : Content) (old new : Option Shown) : Type 0 where
  pub written : Option Shown
  pub wrote : WroteAll old written content.file
  pub said : SaidAll written new content.text
