-- Only the words of some lengths count.
use Prim.Native.Nat.{ℕ, suc}
use Prim.Native.String.{String}
use mathlib.Core.Bool.{Bool, true, false, cond}
use mathlib.Core.List.{List, [], ◌∷◌}
use mathlib.Core.Path.{◌≡◌, refl, sym, ap, ◌∙◌}
use native.Mathlib.Omega.{arith}
use lib.ListN.{length}
use Rattle.text.specs.Bytes.{same}
use Rattle.text.specs.Words.{is_some, words, find, is_one_of}
use Rattle.text.proofs.WordLaws.{same_lengths, find-here, find_past}
use Rattle.law_lengths.specs.Means.{sized, among}

never : {A : Type 0} → false ≡ true → A
never e = let z : ◌≡◌ {A = ℕ} 0 1 = cc in absurd (omega arith)

pub find-sized : (p : ℕ → Bool) (ns : List (List ℕ)) (i j : ℕ) (w : List ℕ) → p (length w) ≡ true
    → is_some (find (sized p ns) j w) ≡ is_some (find ns i w)
unfolding find sized
find-sized p [] i j w h = refl
find-sized p (n ∷ ns) i j w h = go (p (length n)) refl (same w n) refl (λ k. find-sized p ns (suc i) k w h)
  where
    go : (a : Bool) → p (length n) ≡ a → (b : Bool) → same w n ≡ b
        → ((k : ℕ) → is_some (find (sized p ns) k w) ≡ is_some (find ns (suc i) w))
        → is_some (find (cond a (n ∷ sized p ns) (sized p ns)) j w) ≡ is_some (find (n ∷ ns) i w)
    go true e true f ih = rw (find-here w n ns i f, find-here w n (sized p ns) j f)
    go true e false f ih = rw (find_past w n ns i f, find_past w n (sized p ns) j f) (ih (suc j))
    go false e b f ih = rw (find_past w n ns i (same_lengths w n (λ q. never (sym e ∙ ap p (sym q) ∙ h)))) (ih j)

pub listed : (p : ℕ → Bool) (names : List String) (w : List ℕ) → p (length w) ≡ true → among p names w ≡ is_one_of names w
listed p names w h = find-sized p (words names) 0 0 w h
