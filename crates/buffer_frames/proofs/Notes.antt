-- What the checkpoint has noted of a frame, over the steps of a read and of a write.
use Rattle.std.proofs.Common.{◌≡◌, ℕ, Bool, true, false, ap, ◌∙◌}
use Rattle.pin_core.specs.declared.view.Link.{Link}
use Rattle.pin_core.specs.State.{Page}
use Rattle.frame_table.specs.Seats.{Looked, locked_link, unlocked_link}
use Rattle.buffer_frames.proofs.LaneTrips.{read_noted_link, write_noted_link}
use Rattle.buffer_frames.specs.Working.{KeepsNotes}

pub notes_by : (l m : Link) → m.visited ≡ l.visited → m.left_to_write ≡ l.left_to_write → KeepsNotes l m
notes_by l m visited left_to_write = record { visited = λ p. visited ∙ p; left_to_write = λ n. left_to_write ∙ n }

pub notes_same : (l m : Link) → m ≡ l → KeepsNotes l m
notes_same l m e = notes_by l m (ap (λ (x : Link). x.visited) e) (ap (λ (x : Link). x.left_to_write) e)

pub notes_on : (l m n : Link) → KeepsNotes l m → KeepsNotes m n → KeepsNotes l n
notes_on l m n a b = record { visited = λ p. b.visited (a.visited p); left_to_write = λ p. b.left_to_write (a.left_to_write p) }

pub notes_looked : (l m : Link) → Looked l m → KeepsNotes l m
notes_looked l m a = record { visited = a.visited; left_to_write = a.left_to_write }

-- the header is locked and unlocked
pub notes_unlocked : (word : ℕ) (l m n : Link) → Looked (locked_link word l) m → n ≡ unlocked_link m → KeepsNotes l n
notes_unlocked word l m n a e = notes_on l m n record { visited = a.visited; left_to_write = a.left_to_write } (notes_by m n (ap (λ (x : Link). x.visited) e) (ap (λ (x : Link). x.left_to_write) e))

pub notes_read : (done : Bool) (page : Page) (l m : Link) → m ≡ read_noted_link done page l → KeepsNotes l m
notes_read true page l m e = notes_by l m (ap (λ (x : Link). x.visited) e) (ap (λ (x : Link). x.left_to_write) e)
notes_read false page l m e = notes_same l m e

pub notes_noted : (done : Bool) (l m : Link) → m ≡ write_noted_link done l → KeepsNotes l m
notes_noted true l m e = notes_by l m (ap (λ (x : Link). x.visited) e) (ap (λ (x : Link). x.left_to_write) e)
notes_noted false l m e = notes_by l m (ap (λ (x : Link). x.visited) e) (ap (λ (x : Link). x.left_to_write) e)
