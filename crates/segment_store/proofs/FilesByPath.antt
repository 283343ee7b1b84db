-- The first file with a path.
use Rattle.std.proofs.Common.{◌≡◌, ℕ, zero, suc, ◌+◌, Bool, true, false, cond, List, [], ◌∷◌, ◌++◌, get_or, set, Some, None, refl, sym, ◌∙◌, ap, subst, inl, inr, arith}
use Rattle.std.proofs.lemmas.Bool.{cases_Bool}
use Rattle.std.proofs.lemmas.Iterator.Adapters.{position_from-zero}
use Rattle.std.specs.Cmp.Lexicographic.{other_text, same_text}
use Rattle.std.specs.List.{position, position_from}
use Rattle.std.specs.Str.{bytes_eq}
use Rattle.segment_store.specs.Paths.{of_first}

pub same_bytes : (a b : List ℕ) → a ≡ b → bytes_eq a b ≡ true
same_bytes a b is = elim (cases_Bool (bytes_eq a b)) [ inl same ↦ same | inr other ↦ absurd (other_text a b (sym other) is) ]

-- what equals a path is no other path
apart : (a p path : List ℕ) → a ≡ path → bytes_eq p path ≡ false → bytes_eq a p ≡ false
apart a p path is other = elim (cases_Bool (bytes_eq a p)) [
  | inl same ↦ absurd (other_text p path (sym other) (sym (same_text a p (sym same)) ∙ is))
  | inr not ↦ not
]

module _ {F : Type 0} (name : F → List ℕ) (path : List ℕ) where
  abbrev pub has_path : F → Bool
  has_path file = bytes_eq (name file) path

  -- the file at this place has the path, and none before it has
  abbrev pub IsFirst : List F → ℕ → Type 0
  IsFirst [] place = ⊥
  IsFirst (file ∷ files) zero = has_path file ≡ true
  IsFirst (file ∷ files) (suc place) = (has_path file ≡ false) × IsFirst files place

  first_from : (files : List F) (k place : ℕ) → position_from has_path k files ≡ Some place → (j : ℕ) × ((place ≡ k + j) × IsFirst files j)
  first_from [] k place found = absurd (cc found)
  first_from (file ∷ files) k place found = elim (cases_Bool (has_path file)) [
    | inl is ↦
        let here : Some k ≡ Some place = sym (ap (λ (b : Bool). cond b (Some k) (position_from has_path (k + 1) files)) is) ∙ found in
        let at : k ≡ place = cc here in
        (0, (omega arith, is))
    | inr not ↦
        let later = first_from files (k + 1) place (sym (ap (λ (b : Bool). cond b (Some k) (position_from has_path (k + 1) files)) not) ∙ found) in
        (suc later.0, (let e = later.1.0 in omega arith, (not, later.1.1)))
  ]

  pub is_first : (files : List F) (place : ℕ) → Some place ≡ position has_path files → IsFirst files place
  is_first files place found =
      let first = first_from files 0 place (sym (position_from-zero has_path files) ∙ sym found) in
      let at : first.0 ≡ place = (let e = first.1.0 in omega arith) in
      subst (λ (j : ℕ). IsFirst files j) at first.1.1

  module _ {X : Type 0} (read : F → X) (none : X) where
    pub read_first : (files : List F) (place : ℕ) (d : F) → IsFirst files place → of_first name read none files path ≡ read (get_or files place d)
    read_first [] place d first = absurd first
    read_first (file ∷ files) zero d first = ap (λ (b : Bool). cond b (read file) (of_first name read none files path)) first
    read_first (file ∷ files) (suc place) d first = ap (λ (b : Bool). cond b (read file) (of_first name read none files path)) first.0 ∙ read_first files place d first.1

    read_none_from : (files : List F) (k : ℕ) → position_from has_path k files ≡ None → of_first name read none files path ≡ none
    read_none_from [] k found = refl
    read_none_from (file ∷ files) k found = elim (cases_Bool (has_path file)) [
      | inl is ↦
          let here : Some k ≡ None = sym (ap (λ (b : Bool). cond b (Some k) (position_from has_path (k + 1) files)) is) ∙ found in
          absurd (cc here)
      | inr not ↦
          ap (λ (b : Bool). cond b (read file) (of_first name read none files path)) not
          ∙ read_none_from files (k + 1) (sym (ap (λ (b : Bool). cond b (Some k) (position_from has_path (k + 1) files)) not) ∙ found)
    ]

    pub read_none : (files : List F) → None ≡ position has_path files → of_first name read none files path ≡ none
    read_none files found = read_none_from files 0 (sym (position_from-zero has_path files) ∙ sym found)

    -- another file in its place is read at the path, and all other paths as before
    pub read_set : (files : List F) (place : ℕ) (other : F) (p : List ℕ) → IsFirst files place → name other ≡ path
        → of_first name read none (set files place other) p ≡ cond (bytes_eq p path) (read other) (of_first name read none files p)
    read_set [] place other p first named = absurd first
    read_set (file ∷ files) zero other p first named = elim (cases_Bool (bytes_eq p path)) [
      | inl same ↦
          let test : bytes_eq (name other) p ≡ true = same_bytes (name other) p (named ∙ sym (same_text p path (sym same))) in
          ap (λ (b : Bool). cond b (read other) (of_first name read none files p)) test
          ∙ ap (λ (b : Bool). cond b (read other) (of_first name read none (file ∷ files) p)) (sym same)
      | inr not ↦
          let here : name file ≡ path = same_text (name file) path (sym first) in
          ap (λ (b : Bool). cond b (read other) (of_first name read none files p)) (apart (name other) p path named not)
          ∙ ap (λ (b : Bool). cond b (read file) (of_first name read none files p)) (sym (apart (name file) p path here not))
          ∙ ap (λ (b : Bool). cond b (read other) (of_first name read none (file ∷ files) p)) (sym not)
    ]
    read_set (file ∷ files) (suc place) other p first named = elim (cases_Bool (bytes_eq (name file) p)) [
      | inl same ↦
          let not : bytes_eq p path ≡ false = elim (cases_Bool (bytes_eq p path)) [
            | inl is ↦ absurd (other_text (name file) path (sym first.0) (same_text (name file) p (sym same) ∙ same_text p path (sym is)))
            | inr is_not ↦ is_not
          ] in
          ap (λ (b : Bool). cond b (read file) (of_first name read none (set files place other) p)) same
          ∙ ap (λ (b : Bool). cond b (read file) (of_first name read none files p)) (sym same)
          ∙ ap (λ (b : Bool). cond b (read other) (of_first name read none (file ∷ files) p)) (sym not)
      | inr not ↦
          ap (λ (b : Bool). cond b (read file) (of_first name read none (set files place other) p)) not
          ∙ read_set files place other p first.1 named
          ∙ ap (λ (b : Bool). cond (bytes_eq p path) (read other) (cond b (read file) (of_first name read none files p))) (sym not)
    ]

    read_pushed_from : (files : List F) (k : ℕ) (other : F) (p : List ℕ) → position_from has_path k files ≡ None → name other ≡ path
        → of_first name read none (files ++ other ∷ []) p ≡ cond (bytes_eq p path) (read other) (of_first name read none files p)
    read_pushed_from [] k other p found named = elim (cases_Bool (bytes_eq p path)) [
      | inl same ↦
          let test : bytes_eq (name other) p ≡ true = same_bytes (name other) p (named ∙ sym (same_text p path (sym same))) in
          ap (λ (b : Bool). cond b (read other) none) test
          ∙ ap (λ (b : Bool). cond b (read other) none) (sym same)
      | inr not ↦
          ap (λ (b : Bool). cond b (read other) none) (apart (name other) p path named not)
          ∙ ap (λ (b : Bool). cond b (read other) none) (sym not)
    ]
    read_pushed_from (file ∷ files) k other p found named = elim (cases_Bool (has_path file)) [
      | inl is ↦
          let here : Some k ≡ None = sym (ap (λ (b : Bool). cond b (Some k) (position_from has_path (k + 1) files)) is) ∙ found in
          absurd (cc here)
      | inr other_path ↦ elim (cases_Bool (bytes_eq (name file) p)) [
        | inl same ↦
            let not : bytes_eq p path ≡ false = elim (cases_Bool (bytes_eq p path)) [
              | inl is ↦ absurd (other_text (name file) path (sym other_path) (same_text (name file) p (sym same) ∙ same_text p path (sym is)))
              | inr is_not ↦ is_not
            ] in
            ap (λ (b : Bool). cond b (read file) (of_first name read none (files ++ other ∷ []) p)) same
            ∙ ap (λ (b : Bool). cond b (read file) (of_first name read none files p)) (sym same)
            ∙ ap (λ (b : Bool). cond b (read other) (of_first name read none (file ∷ files) p)) (sym not)
        | inr not ↦
            ap (λ (b : Bool). cond b (read file) (of_first name read none (files ++ other ∷ []) p)) not
            ∙ read_pushed_from files (k + 1) other p (sym (ap (λ (b : Bool). cond b (Some k) (position_from has_path (k + 1) files)) other_path) ∙ found) named
            ∙ ap (λ (b : Bool). cond (bytes_eq p path) (read other) (cond b (read file) (of_first name read none files p))) (sym not)
      ]
    ]

    -- a file that is added if none has the path is read at the path, and all other paths as before
    pub read_pushed : (files : List F) (other : F) (p : List ℕ) → None ≡ position has_path files → name other ≡ path
        → of_first name read none (files ++ other ∷ []) p ≡ cond (bytes_eq p path) (read other) (of_first name read none files p)
    read_pushed files other p found named = read_pushed_from files 0 other p (sym (position_from-zero has_path files) ∙ sym found) named

  -- the file at the place has the path
  pub first_named : (files : List F) (place : ℕ) (d : F) → IsFirst files place → name (get_or files place d) ≡ path
  first_named [] place d first = absurd first
  first_named (file ∷ files) zero d first = same_text (name file) path (sym first)
  first_named (file ∷ files) (suc place) d first = first_named files place d first.1

when_true : {X : Type 0} (b : Bool) (x y z : X) → (b ≡ true → x ≡ y) → cond b x z ≡ cond b y z
when_true true x y z is = is refl
when_true false x y z is = refl

same_unless : {X : Type 0} (b : Bool) (x y : X) → (b ≡ true → y ≡ x) → y ≡ cond b x y
same_unless true x y is = is refl
same_unless false x y is = refl

module _ {F : Type 0} (name : F → List ℕ) (path : List ℕ) {X : Type 0} (read : F → X) (none : X) where
  -- if the other file says this at the path
  pub read_becomes : (files : List F) (place : ℕ) (other : F) (p : List ℕ) (now : X) → IsFirst name path files place → name other ≡ path
      → (p ≡ path → read other ≡ now) → of_first name read none (set files place other) p ≡ cond (bytes_eq p path) now (of_first name read none files p)
  read_becomes files place other p now first named is =
      read_set name path read none files place other p first named
      ∙ when_true (bytes_eq p path) (read other) now (of_first name read none files p) (λ same. is (same_text p path (sym same)))

  -- if it says the same
  pub read_stays : (files : List F) (place : ℕ) (other d : F) (p : List ℕ) → IsFirst name path files place → name other ≡ path
      → read other ≡ read (get_or files place d) → of_first name read none (set files place other) p ≡ of_first name read none files p
  read_stays files place other d p first named is =
      read_becomes files place other p (of_first name read none files p) first named (λ same. is ∙ sym (read_first name path read none files place d first) ∙ ap (λ (q : List ℕ). of_first name read none files q) (sym same))
      ∙ sym (same_unless (bytes_eq p path) (of_first name read none files p) (of_first name read none files p) (λ same. refl))

  -- if there is no file with the path, nothing is said there
  pub read_absent : (files : List F) (p : List ℕ) (now : X) → None ≡ position (has_path name path) files → (p ≡ path → none ≡ now)
      → of_first name read none files p ≡ cond (bytes_eq p path) now (of_first name read none files p)
  read_absent files p now found is = same_unless (bytes_eq p path) now (of_first name read none files p)
      (λ same. let at = same_text p path (sym same) in ap (λ (q : List ℕ). of_first name read none files q) at ∙ read_none name path read none files found ∙ is at)
