-- The page of a frame goes out with a backend, and comes back.
use Rattle.std.specs.Prelude.{◌≡◌, ◌≢◌, ℕ, true, false, ◌∷◌, Option, Some, None, if◌then◌else◌}
use Rattle.atomic_table.specs.Table.{Me, Step, rest}
use Rattle.pin_core.specs.declared.view.Content.TheVariants.{Unlocked, Shared}
use Rattle.pin_core.specs.declared.view.Io.{Io}
use Rattle.pin_core.specs.declared.view.Io.TheVariants.{Quiet, Input, Output}
use Rattle.pin_core.specs.declared.view.Link.{Link}
use Rattle.pin_core.specs.declared.view.View.{View}
use Rattle.pin_core.specs.State.{Page, link}
use Rattle.page_core.specs.Kinds as paged
use Rattle.page_core.specs.Kinds.{copied_after}
use Rattle.table_rule.specs.declared.value.Value.{Value}
use Rattle.table_rule.specs.declared.value.Value.TheVariants as value
use Rattle.frame_table.specs.Kinds.{pages}
use Rattle.frame_table.specs.FrameSteps.{Did}

-- The page may go out: under the exclusive lock, with the copy latch, or under an input right
pub record MayTakePage (l : Link) : Type 0 where
  pub home : l.out ≡ None
  pub shared : l.content ≡ Shared → l.copying ≡ true
  pub unlocked : l.content ≡ Unlocked → l.io ≡ Input

-- The kind by which a page that is out is overwritten before it comes back: with the image of the
-- backend's entry, if that isn't applied yet, or with the page that the lane gave
abbrev pub by_input : Io → Option Page → Option paged.Kind
by_input Input (Some p) = Some (paged.overwrite_read p)
by_input Input None = None
by_input Output read = None
by_input Quiet read = None

abbrev pub overwriting : Link → Option paged.Kind
overwriting l = if l.unapplied then Some paged.overwrite_logged else by_input l.io l.read

-- the page that comes back: what it was overwritten with, or else as it was taken
abbrev pub input_page : Io → Option Page → Option Page → Option Page
input_page Input (Some p) out = Some p
input_page Input None out = out
input_page Output read out = out
input_page Quiet read out = out

abbrev pub page_due : Link → Option Page
page_due l = if l.unapplied then l.image else input_page l.io l.read l.out

-- The page may come back as this page
pub record MayReturnPage (page : Page) (l : Link) : Type 0 where
  pub out : l.out ≢ None
  pub once : l.overwritten ≡ None
  pub due : page_due l ≡ Some page

-- the page that a view has read is home after that
abbrev pub read_home : Io → Option Page → Link → Link
read_home Input (Some p) l = record l { read_is_home = true }
read_home Input None l = l
read_home Output read l = l
read_home Quiet read l = l

-- what the view has there with the page out, and once it is back
abbrev pub page_out_link : Page → Link → Link
page_out_link page l = record l { out = Some page }

abbrev pub applied_link : Page → Link → Link
applied_link page l = record l {
  unapplied = false;
  image = None;
  copied = copied_after l.content false page l.copied;
}

abbrev pub returned_link : Page → Link → Link
returned_link page l = if l.unapplied then applied_link page (record l { out = None })
    else read_home l.io l.read (record l {
      out = None;
      copied = copied_after l.content false page l.copied;
    })

-- The view v became w as the page came back: by its return alone, or by a step of this kind and
-- then its return
abbrev pub ReturnsBy : Option paged.Kind → ℕ → View → View → ℕ → Type 0
ReturnsBy None f v w found = Did (pages paged.page_back) f v w found
ReturnsBy (Some k) f v w found = (u : View) × Did (pages k) f v u found
    × Did (pages paged.page_back) f u w found

module _ {L G : Type 0} where
  -- the value is this page
  abbrev pub IsPage : Value L G → Page → Type 0
  IsPage (value.Page p) page = p ≡ page
  IsPage _ page = ⊥

  -- the page of f went out with the seat, from this slot
  abbrev pub page_went : ℕ → ℕ → Step (Value L G) → Me (Value L G) View → ℕ → Me (Value L G) View
      → Type 0
  page_went f slot st m found m' = (y : Value L G) × (page : Page) × (m'.1 ≡ (slot, y) ∷ m.1)
      × IsPage y page × ((link m'.0 f).out ≡ Some page)
      × Did (pages paged.page_out) f m.0 m'.0 found

  -- the page of f came back from the seat
  abbrev pub page_came : ℕ → Step (Value L G) → Me (Value L G) View → ℕ → Me (Value L G) View
      → Type 0
  page_came f st m found m' = (m'.1 ≡ rest m.1) × ReturnsBy (overwriting (link m.0 f)) f m.0 m'.0
      found
