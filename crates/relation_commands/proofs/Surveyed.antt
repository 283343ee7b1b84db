-- The largest position that a survey found is that of the pages.
use Rattle.std.proofs.Common.{◌≡◌, ℕ, zero, suc, ◌<◌, ◌≤◌, true, false, List, [], ◌∷◌, get_or, length, Option, Some, None, refl, sym, subst, ⊎_elim, arith}
use Rattle.std.specs.Prelude.{IsSomeAnd}
use Rattle.std.specs.Option.{ForSome, option_and_then}
use Rattle.std.proofs.lemmas.Bool.{cases_Bool, lt-ltb, ltb-true}
use Rattle.block_tag.specs.declared.catalogue.RelEntry.{RelEntry}
use Rattle.block_tag.specs.declared.tag.Tag.{Tag}
use Rattle.page_layout.specs.Fields.{lsn_of}
use Rattle.page_layout.specs.Soundness.{is_sound_page}
use Rattle.segment_store.specs.Contents.{Pages}
use Rattle.segment_store.specs.Lanes.{HasPage, HoldPages, lane_at, tag_at}
use Rattle.pin_core.specs.State.{Page}
use Rattle.block_tag.specs.declared.tag.Fork.{Fork}
use Rattle.page_jobs.specs.Relations.{IsCatalogOf}
use Rattle.lane_survey.specs.Survey.{IsLargestLsn, IsListed, IsLsnOf, IsSoundAt}
use Rattle.relation_commands.specs.Limits.{largest_lsn, sound_lsn}

-- a page in the lane of its tag is what is read there
page_there : (lane : Option Pages) (tag : Tag) (page : Page) → IsSomeAnd lane (λ pages. pages tag ≡ Some page) → option_and_then (λ pages. pages tag) lane ≡ Some page
page_there None tag page has = absurd has
page_there (Some pages) tag page has = has

-- where a page is known to be sound, it is that one
sound_there : (lane : Option Pages) (tag : Tag) (page : Page) (lsn : ℕ) → IsSomeAnd lane (λ pages. pages tag ≡ Some page)
    → ForSome lane (λ pages. IsSomeAnd (pages tag) (IsSoundAt lsn)) → IsSoundAt lsn page
sound_there None tag page lsn has sound = absurd has
sound_there (Some pages) tag page lsn has sound = subst (λ (o : Option (List ℕ)). IsSomeAnd o (IsSoundAt lsn)) has (sound pages refl)

sound_position : (page : Page) → is_sound_page page ≡ true → sound_lsn page ≡ lsn_of page
sound_position page sound = rw sound

unsound_position : (page : Page) → is_sound_page page ≡ false → sound_lsn page ≡ 0
unsound_position page unsound = rw unsound

-- no sound page has a larger position, and one has it
bounded : (pages : List Page) (bound : ℕ) → ((k : ℕ) → k < length pages → sound_lsn (get_or pages k []) ≤ bound) → largest_lsn pages ≤ bound
bounded [] bound below = omega arith
bounded (page ∷ pages) bound below =
    let here = below 0 (omega arith) in
    let rest = bounded pages bound (λ k in_rest. below (suc k) (omega arith)) in
    omega (arith, here, rest)

reached : (pages : List Page) (k : ℕ) → k < length pages → sound_lsn (get_or pages k []) ≤ largest_lsn pages
reached [] k below = absurd (omega arith)
reached (page ∷ pages) zero below = omega arith
reached (page ∷ pages) (suc k) below = let rest = reached pages k (omega arith) in omega (arith, rest)

module _ (fork : Fork) (blocks : ℕ) (catalog : List RelEntry) (lanes : List (Option Pages)) (pages : List Page) (largest : ℕ)
    (all : IsCatalogOf fork blocks catalog) (held : HoldPages fork pages lanes) (counted : blocks ≡ length pages)
    (is : IsLargestLsn (IsListed catalog) lanes largest) where
  listed : (block : ℕ) → block < length pages → IsListed catalog (tag_at fork block)
  listed block below = lt-ltb block _ (let n = all.counted in omega (arith, n))

  at_most : largest_lsn pages ≤ largest
  at_most = bounded pages largest (λ k below. ⊎_elim
      (λ (sound : is_sound_page (get_or pages k []) ≡ true).
      let bound = is.bound (tag_at fork k) (get_or pages k []) (listed k below) (page_there _ (tag_at fork k) _ (held k below)) sound in
      let position = sound_position (get_or pages k []) sound in
      omega (arith, bound, position))
      (λ (unsound : is_sound_page (get_or pages k []) ≡ false). let none = unsound_position (get_or pages k []) unsound in omega (arith, none))
      (cases_Bool (is_sound_page (get_or pages k []))))

  of_block : (tag : Tag) → IsLsnOf (IsListed catalog) lanes tag largest → largest ≤ largest_lsn pages
  of_block tag of =
      let own = all.alone tag of.listed in
      let within : tag.block < length pages =
      (let n = all.counted in
      let here = ltb-true _ _ (subst (λ (t : Tag). IsListed catalog t) own of.listed) in omega (arith, n, here)) in
      let has = subst (λ (t : Tag). HasPage t (get_or pages tag.block []) lanes) (sym own) (held tag.block within) in
      let sound = sound_there (lane_at lanes tag) tag (get_or pages tag.block []) largest has of.page in
      let position = sound_position (get_or pages tag.block []) sound.sound in
      let up = reached pages tag.block within in
      let same = sound.position in
      omega (arith, position, up, same)

  pub largest_is : largest ≡ largest_lsn pages
  largest_is =
      let most = at_most in
      ⊎_elim
      (λ (none : largest ≡ 0). let n = none in omega (arith, most, n))
      (λ (some : (tag : Tag) × IsLsnOf (IsListed catalog) lanes tag largest). let least = of_block some.0 some.1 in omega (arith, most, least))
      is.reached
