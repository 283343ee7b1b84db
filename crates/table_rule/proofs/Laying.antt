-- The words and the slots at the start, as they are laid.
use Rattle.std.proofs.Common.{◌≡◌, ℕ, zero, suc, ◌+◌, ◌*◌, ◌<◌, ◌≤◌, List, [], ◌∷◌, ◌++◌, map, replicate, reverse, length, get_or, length-append, append_assoc, Option, Vec, Global, sym, refl, ap, ◌∙◌, subst, arith, ⊎_elim, None, Some}
use Rattle.std.proofs.lemmas.List.{get_or_append_left, get_or-append-add, length-reverse, reverse-append, append-nil}
use Rattle.std.specs.Prelude.{vec_capacity}
use mathlib.Core.Logic.{dite}
use mathlib.Core.Option.{some, some-injective, some-ne-none}
use native.Mathlib.Decide.{ℕ_discrete}
use lib.ListN.{get_elem?}
use Rattle.std.specs.Option.{option_to_list}
use Rattle.grid.proofs.Lists.{at_end, at_longer}
use Rattle.atomic_table.proofs.Lists.{at_last}
use Rattle.page_core.specs.State.{zero_page}
use Rattle.table_rule.specs.declared.value.Value.{Value}
use Rattle.table_rule.specs.declared.value.Value.TheVariants as value
use Rattle.pin_core.specs.Turns.{found}
use Rattle.pin_core.proofs.Sample.{no_entries}
use Rattle.table_rule.specs.declared.value.Mapped.{Mapped}
use Rattle.table_rule.specs.declared.noted_lane.NotedLane.{NotedLane}
use Rattle.table_rule.specs.declared.noted_log.NotedLog.{NotedLog}
use Rattle.table_rule.specs.Shows.{GivesMap, entry_of}
use Rattle.table_rule.specs.Laid.{AreBlank, AreFresh, AreMaps, AddsMaps, home_lane, home_lanes, lanes_among, EndsWith, HasNoDevices}

pub blank_none : AreBlank [] 0
blank_none = record { wide = refl; states = λ f h. absurd (omega arith); tags = λ f h. absurd (omega arith); contents = λ f h. absurd (omega arith) }

-- the words of one frame, and five that nothing uses: each frame has a line of the cache to itself
abbrev pub blank_frame : List ℕ
blank_frame = 0 ∷ 18446744073709551615 ∷ 0 ∷ 0 ∷ 0 ∷ 0 ∷ 0 ∷ 0 ∷ []

-- one more frame
pub blank_more : (ws : List ℕ) (n : ℕ) → AreBlank ws n → AreBlank (ws ++ blank_frame) (n + 1)
blank_more ws n h = let wide = h.wide in
    let old : (i : ℕ) → i < 8 * n → get_or (ws ++ blank_frame) i 0 ≡ get_or ws i 0 = (λ i low. get_or_append_left ws blank_frame 0 i (omega arith)) in
    let new : (k i : ℕ) → i ≡ length ws + k → get_or (ws ++ blank_frame) i 0 ≡ get_or blank_frame k 0 = (λ k i e. ap (λ (j : ℕ). get_or (ws ++ blank_frame) j 0) e ∙ get_or-append-add ws blank_frame k 0) in record {
      wide = (let a = length-append ws blank_frame in omega arith);
      states = λ f below. dite (ℕ_discrete f n) (λ e. new 0 (8 * f) (omega arith)) (λ o. old (8 * f) (omega arith) ∙ h.states f (omega arith));
      tags = λ f below. dite (ℕ_discrete f n) (λ e. new 1 (8 * f + 1) (omega arith)) (λ o. old (8 * f + 1) (omega arith) ∙ h.tags f (omega arith));
      contents = λ f below. dite (ℕ_discrete f n) (λ e. new 2 (8 * f + 2) (omega arith)) (λ o. old (8 * f + 2) (omega arith) ∙ h.contents f (omega arith));
    }

module _ {L G : Type 0} where
  pub maps_none : (n : ℕ) (before : List (Value L G)) → AddsMaps n 0 before before
  maps_none n before = record { maps = []; counted = refl; are_maps = λ k y e. absurd (some-ne-none y (sym e)); is = sym (append-nil before) }

  pub maps_more : (n count : ℕ) (before after : List (Value L G)) (y : Value L G) → GivesMap n y (λ _. None) → AddsMaps n count before after → AddsMaps n (count + 1) before (after ++ y ∷ [])
  maps_more n count before after y gives h = record {
    maps = h.maps ++ y ∷ [];
    counted = length-append h.maps (y ∷ []) ∙ (let e = h.counted in omega arith);
    are_maps = λ k z e. ⊎_elim (λ (t : get_elem? h.maps k ≡ some z). h.are_maps k z t) (λ (t : (y ≡ z) × (k ≡ length h.maps)). subst (λ (u : Value L G). GivesMap n u (λ _. None)) t.0 gives) (at_end h.maps y z k e);
    is = ap (λ (l : List (Value L G)). l ++ y ∷ []) h.is ∙ append_assoc before h.maps (y ∷ []);
  }

  -- lanes and logs of two lists
  pub lanes_append : (xs ys : List (Value L G)) → lanes_among (xs ++ ys) ≡ lanes_among xs ++ lanes_among ys
  unfolding lanes_among
  lanes_append [] ys = refl
  lanes_append (value.Page p ∷ xs) ys = lanes_append xs ys
  lanes_append (value.Map m ∷ xs) ys = lanes_append xs ys
  lanes_append (value.Lane l ∷ xs) ys = ap (λ (z : List L). l.device ∷ z) (lanes_append xs ys)
  lanes_append (value.Log g ∷ xs) ys = lanes_append xs ys
  lanes_append (value.Lanes l ∷ xs) ys = lanes_append xs ys
  lanes_append (value.Away ∷ xs) ys = lanes_append xs ys

  pub plain_left : (xs ys : List (Value L G)) → HasNoDevices (xs ++ ys) → HasNoDevices xs
  unfolding HasNoDevices
  plain_left [] ys h = tt
  plain_left (value.Page p ∷ xs) ys h = plain_left xs ys h
  plain_left (value.Map m ∷ xs) ys h = plain_left xs ys h
  plain_left (value.Lane l ∷ xs) ys h = plain_left xs ys h
  plain_left (value.Log g ∷ xs) ys h = absurd h
  plain_left (value.Lanes l ∷ xs) ys h = absurd h
  plain_left (value.Away ∷ xs) ys h = plain_left xs ys h

  pub plain_right : (xs ys : List (Value L G)) → HasNoDevices (xs ++ ys) → HasNoDevices ys
  unfolding HasNoDevices
  plain_right [] ys h = h
  plain_right (value.Page p ∷ xs) ys h = plain_right xs ys h
  plain_right (value.Map m ∷ xs) ys h = plain_right xs ys h
  plain_right (value.Lane l ∷ xs) ys h = plain_right xs ys h
  plain_right (value.Log g ∷ xs) ys h = absurd h
  plain_right (value.Lanes l ∷ xs) ys h = absurd h
  plain_right (value.Away ∷ xs) ys h = plain_right xs ys h

  pub plain_both : (xs ys : List (Value L G)) → HasNoDevices xs → HasNoDevices ys → HasNoDevices (xs ++ ys)
  unfolding HasNoDevices
  plain_both [] ys h k = k
  plain_both (value.Page p ∷ xs) ys h k = plain_both xs ys h k
  plain_both (value.Map m ∷ xs) ys h k = plain_both xs ys h k
  plain_both (value.Lane l ∷ xs) ys h k = plain_both xs ys h k
  plain_both (value.Log g ∷ xs) ys h k = absurd h
  plain_both (value.Lanes l ∷ xs) ys h k = absurd h
  plain_both (value.Away ∷ xs) ys h k = plain_both xs ys h k

-- the devices among the slots at the start
pub lanes_pages : (L G : Type 0) (n : ℕ) → lanes_among {L = L} {G = G} (replicate n (value.Page zero_page)) ≡ []
unfolding lanes_among
lanes_pages L G zero = refl
lanes_pages L G (suc n) = lanes_pages L G n

pub plain_pages : (L G : Type 0) (n : ℕ) → HasNoDevices {L = L} {G = G} (replicate n (value.Page zero_page))
unfolding HasNoDevices
plain_pages L G zero = tt
plain_pages L G (suc n) = plain_pages L G n

pub lanes_aways : (L G : Type 0) (n : ℕ) → lanes_among {L = L} {G = G} (replicate n value.Away) ≡ []
unfolding lanes_among
lanes_aways L G zero = refl
lanes_aways L G (suc n) = lanes_aways L G n

pub plain_aways : (L G : Type 0) (n : ℕ) → HasNoDevices {L = L} {G = G} (replicate n value.Away)
unfolding HasNoDevices
plain_aways L G zero = tt
plain_aways L G (suc n) = plain_aways L G n

pub lanes_lanes : (L G : Type 0) (q : ℕ) (ls : List L) → lanes_among {L = L} {G = G} (home_lanes q ls) ≡ ls
unfolding lanes_among
lanes_lanes L G q [] = refl
lanes_lanes L G q (l ∷ ls) = ap (λ (z : List L). l ∷ z) (lanes_lanes L G (q + 1) ls)

pub plain_lanes : (L G : Type 0) (q : ℕ) (ls : List L) → HasNoDevices {L = L} {G = G} (home_lanes q ls)
unfolding HasNoDevices
plain_lanes L G q [] = tt
plain_lanes L G q (l ∷ ls) = plain_lanes L G (q + 1) ls

-- there are as many as lanes, each with the number of its place
pub lanes_counted : (L G : Type 0) (q : ℕ) (ls : List L) → length (home_lanes {L = L} {G = G} q ls) ≡ length ls
lanes_counted L G q [] = refl
lanes_counted L G q (l ∷ ls) = ap suc (lanes_counted L G (q + 1) ls)

pub lane_numbered : (L G : Type 0) (q k n : ℕ) (ls : List L) (l : L) → n ≡ q + k → get_elem? ls k ≡ some l → get_elem? (home_lanes {L = L} {G = G} q ls) k ≡ some (home_lane n l)
lane_numbered L G q k n [] l e at = absurd (some-ne-none l (sym at))
lane_numbered L G q zero n (x ∷ ls) l e at = ap (λ (y : L). some (home_lane {L = L} {G = G} q y)) (some-injective x l at) ∙ ap (λ (m : ℕ). some (home_lane {L = L} {G = G} m l)) {x = q} {y = n} (omega (arith, e))
lane_numbered L G q (suc k) n (x ∷ ls) l e at = lane_numbered L G (q + 1) k n ls l (omega (arith, e)) at

-- one more lane was put after the values, by the number of its place
pub laid_lane : {L G : Type 0} (slots slots' : List (Value L G)) (lanes rest : List L) (l : L) (n m : ℕ) (all : List (Value L G)) → lanes ≡ rest ++ l ∷ [] → slots' ≡ slots ++ home_lane n l ∷ [] → m ≡ n + 1 → slots ++ home_lanes n (reverse lanes) ≡ all → slots' ++ home_lanes m (reverse rest) ≡ all
laid_lane slots slots' lanes rest l n m all popped put next done = ap (λ (s : List (Value _ _)). s ++ home_lanes m (reverse rest)) put ∙ append_assoc slots (home_lane n l ∷ []) (home_lanes m (reverse rest))
    ∙ ap (λ (k : ℕ). slots ++ home_lane n l ∷ home_lanes k (reverse rest)) next ∙ ap (λ (ls : List _). slots ++ home_lanes n ls) (sym (ap (λ (ls : List _). reverse ls) popped ∙ reverse-append rest (l ∷ []))) ∙ done

abbrev head_or : {A : Type 0} → A → List A → A
head_or d [] = d
head_or d (x ∷ xs) = x

abbrev rest_of : {A : Type 0} → List A → List A
rest_of [] = []
rest_of (x ∷ xs) = xs

-- two lists with the same items have the same last one
pub snoc_same : {A : Type 0} (xs ys : List A) (x y : A) → xs ++ x ∷ [] ≡ ys ++ y ∷ [] → (xs ≡ ys) × (x ≡ y)
snoc_same [] [] x y e = (refl, ap (head_or x) e)
snoc_same [] (b ∷ []) x y e = absurd (let n = ap (λ (l : List _). length l) e in omega arith)
snoc_same [] (b ∷ c ∷ ys) x y e = absurd (let n = ap (λ (l : List _). length l) e in omega arith)
snoc_same (a ∷ []) [] x y e = absurd (let n = ap (λ (l : List _). length l) e in omega arith)
snoc_same (a ∷ c ∷ xs) [] x y e = absurd (let n = ap (λ (l : List _). length l) e in omega arith)
snoc_same (a ∷ xs) (b ∷ ys) x y e = let t = snoc_same xs ys x y (ap rest_of e) in ((λ i. head_or a (e i) ∷ t.0 i), t.1)

module _ {L G : Type 0} where
  -- a value that was popped
  pub popped : (xs ys : List (Value L G)) (r : Option (Value L G)) (y : Value L G) → xs ≡ ys ++ option_to_list r → r ≡ Some y → xs ≡ ys ++ y ∷ []
  popped xs ys r y e is = e ∙ ap (λ (o : Option (Value L G)). ys ++ option_to_list o) is

  -- no log is left, where none was
  pub plain_popped : (xs ys : List (Value L G)) (y : Value L G) → xs ≡ ys ++ y ∷ [] → HasNoDevices xs → HasNoDevices ys
  plain_popped xs ys y e h = plain_left ys (y ∷ []) (subst HasNoDevices e h)

  -- and it was neither a log nor the list
  pub no_log_popped : (xs ys : List (Value L G)) (y : Value L G) (g : NotedLog G) → xs ≡ ys ++ y ∷ [] → y ≡ value.Log g → HasNoDevices xs → ⊥
  unfolding HasNoDevices
  no_log_popped xs ys y g e is h = plain_right ys (value.Log g ∷ []) (subst HasNoDevices (e ∙ ap (λ (z : Value L G). ys ++ z ∷ []) is) h)

  pub no_list_popped : (xs ys : List (Value L G)) (y : Value L G) (l : Vec L Global) → xs ≡ ys ++ y ∷ [] → y ≡ value.Lanes l → HasNoDevices xs → ⊥
  unfolding HasNoDevices
  no_list_popped xs ys y l e is h = plain_right ys (value.Lanes l ∷ []) (subst HasNoDevices (e ∙ ap (λ (z : Value L G). ys ++ z ∷ []) is) h)

  -- a page, a map and an empty place are no lanes
  pub no_lane_page : (y : Value L G) (p : List ℕ) → y ≡ value.Page p → lanes_among (y ∷ []) ≡ []
  unfolding lanes_among
  no_lane_page y p e = ap (λ (z : Value L G). lanes_among (z ∷ [])) e

  pub no_lane_map : (y : Value L G) (m : Vec Mapped Global) → y ≡ value.Map m → lanes_among (y ∷ []) ≡ []
  unfolding lanes_among
  no_lane_map y m e = ap (λ (z : Value L G). lanes_among (z ∷ [])) e

  pub no_lane_away : (y : Value L G) → y ≡ value.Away → lanes_among (y ∷ []) ≡ []
  unfolding lanes_among
  no_lane_away y e = ap (λ (z : Value L G). lanes_among (z ∷ [])) e

  -- that is no lane
  pub took_plain : (xs ys : List (Value L G)) (y : Value L G) (zs all : List L) → xs ≡ ys ++ y ∷ [] → lanes_among (y ∷ []) ≡ [] → lanes_among xs ++ zs ≡ all → lanes_among ys ++ zs ≡ all
  took_plain xs ys y zs all e plain done = ap (λ (l : List L). l ++ zs) (sym (ap lanes_among e ∙ lanes_append ys (y ∷ []) ∙ ap (λ (l : List L). lanes_among ys ++ l) plain ∙ append-nil (lanes_among ys))) ∙ done

  -- before any was taken
  pub all_taken : (xs : List (Value L G)) (zs : List L) → zs ≡ [] → lanes_among xs ++ reverse zs ≡ lanes_among xs
  all_taken xs zs e = ap (λ (l : List L). lanes_among xs ++ reverse l) e ∙ append-nil (lanes_among xs)

  -- what stands before the log and the list has the same lanes
  pub lanes_before : (xs ys : List (Value L G)) (g : NotedLog G) (l : Vec L Global) → xs ≡ (ys ++ value.Log g ∷ []) ++ value.Lanes l ∷ [] → lanes_among ys ≡ lanes_among xs
  unfolding lanes_among
  lanes_before xs ys g l e = sym (ap lanes_among e ∙ lanes_append (ys ++ value.Log g ∷ []) (value.Lanes l ∷ []) ∙ append-nil (lanes_among (ys ++ value.Log g ∷ [])) ∙ lanes_append ys (value.Log g ∷ []) ∙ append-nil (lanes_among ys))

  -- after all were taken
  pub taken_all : (xs : List (Value L G)) (zs all : List L) → length xs ≡ 0 → lanes_among xs ++ reverse zs ≡ all → reverse zs ≡ all
  unfolding lanes_among
  taken_all [] zs all n done = done
  taken_all (x ∷ xs) zs all n done = absurd (omega arith)

  -- where a lane stands last, fewer were taken than there are
  pub lane_room : (xs ys : List (Value L G)) (l : NotedLane L) (zs all : List L) → xs ≡ ys ++ value.Lane l ∷ [] → lanes_among xs ++ reverse zs ≡ all → length zs < length all
  unfolding lanes_among
  lane_room xs ys l zs all e done = let a = ap (λ (m : List L). length m) done in let b = length-append (lanes_among xs) (reverse zs) in let c = length-reverse zs in
      let d = ap (λ (m : List L). length m) (ap lanes_among e ∙ lanes_append ys (value.Lane l ∷ [])) in let f = length-append (lanes_among ys) (l.device ∷ []) in omega arith

  -- and that is one
  pub took_lane : (xs ys : List (Value L G)) (l : NotedLane L) (zs all : List L) → xs ≡ ys ++ value.Lane l ∷ [] → lanes_among xs ++ reverse zs ≡ all → lanes_among ys ++ reverse (zs ++ l.device ∷ []) ≡ all
  unfolding lanes_among
  took_lane xs ys l zs all e done = ap (λ (m : List L). lanes_among ys ++ m) (reverse-append zs (l.device ∷ [])) ∙ sym (append_assoc (lanes_among ys) (l.device ∷ []) (reverse zs)) ∙ ap (λ (m : List L). m ++ reverse zs) (sym (ap lanes_among e ∙ lanes_append ys (value.Lane l ∷ []))) ∙ done

  pub lanes_maps : (n : ℕ) (ys : List (Value L G)) → AreMaps n ys → lanes_among ys ≡ []
  unfolding lanes_among
  lanes_maps n [] h = refl
  lanes_maps n (value.Page p ∷ ys) h = absurd (h 0 (value.Page p) refl)
  lanes_maps n (value.Map m ∷ ys) h = lanes_maps n ys (λ k y e. h (suc k) y e)
  lanes_maps n (value.Lane l ∷ ys) h = absurd (h 0 (value.Lane l) refl)
  lanes_maps n (value.Log g ∷ ys) h = absurd (h 0 (value.Log g) refl)
  lanes_maps n (value.Lanes l ∷ ys) h = absurd (h 0 (value.Lanes l) refl)
  lanes_maps n (value.Away ∷ ys) h = absurd (h 0 value.Away refl)

  pub plain_maps : (n : ℕ) (ys : List (Value L G)) → AreMaps n ys → HasNoDevices ys
  unfolding HasNoDevices
  plain_maps n [] h = tt
  plain_maps n (value.Page p ∷ ys) h = absurd (h 0 (value.Page p) refl)
  plain_maps n (value.Map m ∷ ys) h = plain_maps n ys (λ k y e. h (suc k) y e)
  plain_maps n (value.Lane l ∷ ys) h = absurd (h 0 (value.Lane l) refl)
  plain_maps n (value.Log g ∷ ys) h = absurd (h 0 (value.Log g) refl)
  plain_maps n (value.Lanes l ∷ ys) h = absurd (h 0 (value.Lanes l) refl)
  plain_maps n (value.Away ∷ ys) h = absurd (h 0 value.Away refl)

-- one more empty list among those that have room
pub fresh_more : (n : ℕ) (maps : List (Vec Mapped Global)) (m : Vec Mapped Global) → m.items ≡ [] → n ≤ vec_capacity m → AreFresh n maps → AreFresh n (maps ++ m ∷ [])
fresh_more n maps m none room h k x e = ⊎_elim (λ (t : get_elem? maps k ≡ some x). h k x t) (λ (t : (m ≡ x) × (k ≡ length maps)). subst (λ (v : Vec Mapped Global). (v.items ≡ []) × (n ≤ vec_capacity v)) t.0 (none, room)) (at_end maps m x k e)

-- the last of them, and the others
pub fresh_fewer : (n : ℕ) (maps rest : List (Vec Mapped Global)) (m : Vec Mapped Global) → maps ≡ rest ++ m ∷ [] → AreFresh n maps → AreFresh n rest × ((m.items ≡ []) × (n ≤ vec_capacity m))
fresh_fewer n maps rest m e h = (λ k x there. h k x (ap (λ (l : List (Vec Mapped Global)). get_elem? l k) e ∙ at_longer rest (m ∷ []) k x there), h (length rest) m (ap (λ (l : List (Vec Mapped Global)). get_elem? l (length rest)) e ∙ at_last rest m (length rest) refl))

-- an empty list is an empty map
pub found_none : (L G : Type 0) (n : ℕ) (m : Vec Mapped Global) → m.items ≡ [] → n ≤ vec_capacity m → GivesMap {L = L} {G = G} n (value.Map m) (λ _. None)
found_none L G n m e room = record { found = ap (λ (l : List Mapped). found (map entry_of l)) e ∙ no_entries; apart = λ i j a b there _ _. absurd (some-ne-none a (sym there ∙ ap (λ (l : List Mapped). get_elem? l i) e)); room = room }

-- the slots of the start, as they were laid
pub laid_all : {A : Type 0} (n k : ℕ) (page : A) (s₀ s₁ s₂ s₃ s₄ s₅ s₆ maps lanes aways : List A) (log list : A) → s₀ ≡ [] → k ≡ n → s₁ ≡ s₀ ++ replicate k page → s₂ ≡ s₁ ++ maps → s₃ ≡ s₂ ++ lanes → s₄ ≡ s₃ ++ aways → s₅ ≡ s₄ ++ log ∷ [] → s₆ ≡ s₅ ++ list ∷ [] → s₆ ≡ ((((replicate n page ++ maps) ++ lanes) ++ aways) ++ log ∷ []) ++ list ∷ []
laid_all n k page s₀ s₁ s₂ s₃ s₄ s₅ s₆ maps lanes aways log list none same a b c d e f = f ∙ ap (λ (l : List _). l ++ list ∷ []) (e ∙ ap (λ (l : List _). l ++ log ∷ []) (d ∙ ap (λ (l : List _). l ++ aways) (c ∙ ap (λ (l : List _). l ++ lanes) (b ∙ ap (λ (l : List _). l ++ maps) (a ∙ ap (λ (l : List _). l ++ replicate k page) none ∙ ap (λ (m : ℕ). replicate m page) same)))))

-- What was popped from values that end with the log and the list
module _ {L G : Type 0} where
  pub record Ended (xs ys : List (Value L G)) (g : NotedLog G) (l : Vec L Global) : Type 0 where
    pub ends : EndsWith g l xs
    pub plain : HasNoDevices ys
    pub empty : l.items ≡ []
    pub room : length (lanes_among ys) ≤ vec_capacity l
    pub lanes : lanes_among ys ≡ lanes_among xs

  abbrev list_in : Vec L Global → Value L G → Vec L Global
  list_in l (value.Lanes m) = m
  list_in l _ = l

  pub popped_ends : (xs ps ys : List (Value L G)) (g : NotedLog G) (l : Vec L Global) → xs ≡ ps ++ value.Lanes l ∷ [] → ps ≡ ys ++ value.Log g ∷ []
      → (h : NotedLog G) (m : Vec L Global) → EndsWith h m xs → m.items ≡ [] → length (lanes_among xs) ≤ vec_capacity m → Ended xs ys g l
  popped_ends xs ps ys g l a b h m ends empty room = let is : xs ≡ (ys ++ value.Log g ∷ []) ++ value.Lanes l ∷ [] = a ∙ ap (λ (z : List (Value L G)). z ++ value.Lanes l ∷ []) b in
      let outer = snoc_same (ends.others ++ value.Log h ∷ []) (ys ++ value.Log g ∷ []) (value.Lanes m) (value.Lanes l) (sym ends.is ∙ is) in
      let inner = snoc_same ends.others ys (value.Log h) (value.Log g) outer.0 in
      let same : m ≡ l = ap (list_in m) outer.1 in
      let lanes = lanes_before xs ys g l is in record {
        ends = record { others = ys; is = is; plain = subst HasNoDevices inner.0 ends.plain };
        plain = subst HasNoDevices inner.0 ends.plain;
        empty = subst (λ (v : Vec L Global). v.items ≡ []) same empty;
        room = subst (λ (v : Vec L Global). length (lanes_among ys) ≤ vec_capacity v) same (subst (λ (z : List L). length z ≤ vec_capacity m) (sym lanes) room);
        lanes = lanes;
      }
