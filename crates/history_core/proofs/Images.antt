-- Where no entry may be made of ranges each entry of the log is a whole page.
use Rattle.std.proofs.Common.{◌≡◌, Bool, true, false, ◌∙◌, refl, ap, sym, ⊎_elim, length}
use mathlib.Core.Option.{some, some-ne-none}
use lib.ListN.{get_elem?}
use Rattle.history_core.specs.Log.{Entry, Change, image, ranges, resize, MayMake, is_image}
use Rattle.history_core.specs.State.{State}
use Rattle.history_core.specs.Laws.{Laws}
use Rattle.history_core.specs.Histories.{ImagesAlone}
use Rattle.history_core.specs.Steps.{pools, lanes, writes, notes, logs, enters, reads, words, new_entry, reads_size}
use Rattle.history_core.proofs.Always.{KeptByLaws, always}
use Rattle.grid.proofs.Lists.{at_end}

made_whole : (may : Bool) (c : Change) → MayMake may c → may ≡ false → is_image c ≡ true
made_whole may (image tag page) x none = refl
made_whole may (ranges tag spans) x none = absurd (cc)
made_whole may (resize fork old new) x none = absurd x

images_kept : KeptByLaws ImagesAlone
images_kept e s t (pools x a) laws h = h
images_kept e s t (lanes i q k v there live low a alone) laws h = h
images_kept e s t (writes i q f k v there live low inside a x) laws h = h
images_kept e s t (notes i q f noted k v there live low inside a x) laws h = h
images_kept e s t (logs i k v there live a record_is) laws h = h
images_kept e s t (enters i f p c v there live inside x) laws h = λ none k d at. ⊎_elim
    (λ (was : get_elem? s.log.entries k ≡ some d). h none k d was)
    (λ (is : (new_entry s v.number c ≡ d) × (k ≡ length s.log.entries)). ap (λ (y : Entry). is_image y.change) (sym is.0) ∙ made_whole s.ranges c x.allowed none)
    (at_end s.log.entries (new_entry s v.number c) d k at)
images_kept e s t (reads i f z p v there live inside a) laws h = h
images_kept e s t (reads_size i fork v there live a) laws h = h
images_kept e s t (words i k v there live a) laws h = h

pub images_alone : (s : State) → Laws s → ImagesAlone s
images_alone s h = always ImagesAlone images_kept s h.reached (λ none k e at. absurd (some-ne-none e (sym at)))
