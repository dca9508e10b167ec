-- Applets that are looked for in the loaded packages.
use Rattle.std.proofs.Common.{◌≡◌, ℕ, suc, ◌+◌, List, [], ◌∷◌, slice_get, cond, Bool, true, false, Option, Some, None}
use Rattle.std.proofs.Common.{IfSome, bytes_eq, refl, sym, ap, ◌∙◌, subst, arith}
use Rattle.std.specs.List.{find}
use Rattle.std.specs.Option.{option_and_then, option_map_or}
use Rattle.jc_cap.specs.declared.applets.Applet.{Applet}
use Rattle.jc_link.specs.Linked.{HasInstall, IsKnown, IsWorld, LinkedBody, World}
use Rattle.jc_machine.specs.Lookup.{body_at}
use Rattle.jc_names.specs.Names.{home_at}
use Rattle.jc_card.specs.Install.{applet_from, applet_in, row_with}
use Rattle.jc_card.specs.PrivateWords.{IsInstallPlace}
use Rattle.jc_card.specs.declared.places.AppletPlace.{AppletPlace}

-- ---- what is found

record InList {A : Type 0} (xs : List A) (x : A) : Type 0 where
  place : ℕ
  there : slice_get xs place ≡ Some x

find_place : {A : Type 0} (test : A → Bool) (xs : List A) (x : A) → find test xs ≡ Some x → InList xs x
find_place test [] x e = absurd cc
find_place {A} test (y ∷ xs) x e = by_test (test y) e (λ q. find_place test xs x q)
  where
    by_test : (b : Bool) → cond b (Some y) (find test xs) ≡ Some x → (find test xs ≡ Some x → InList xs x)
        → InList (y ∷ xs) x
    by_test true q later = record { place = 0; there = q }
    by_test false q later =
        let f = later q in
        record { place = suc f.place; there = f.there }

-- a row of a package
record HasRow (body : LinkedBody) (install : ℕ) : Type 0 where
  applets : List Applet
  are : body.kept.applets ≡ Some applets
  applet : Applet
  place : ℕ
  there : slice_get applets place ≡ Some applet
  is : applet.install ≡ install

has_row : (aid : List ℕ) (body : LinkedBody) (a : Applet) → applet_in aid body ≡ Some a → HasRow body a.install
has_row aid body a e = by_applets body.kept.applets refl e
  where
    by_applets : (o : Option (List Applet)) → body.kept.applets ≡ o
        → option_and_then (row_with aid) o ≡ Some a
        → HasRow body a.install
    by_applets None f q = absurd cc
    by_applets (Some applets) f q =
        let p = find_place (λ (x : Applet). bytes_eq x.aid aid) applets a q in
        record { applets = applets; are = f; applet = a; place = p.place; there = p.there; is = refl }

-- of the package at a place of a list
record Stands (number : ℕ) (bodies : List LinkedBody) (p : AppletPlace) : Type 0 where
  place : ℕ
  body : LinkedBody
  there : slice_get bodies place ≡ Some body
  number_is : p.number ≡ number + place
  row : HasRow body p.install

stands : (number : ℕ) (bodies : List LinkedBody) (aid : List ℕ) (p : AppletPlace)
    → applet_from number bodies aid ≡ Some p → Stands number bodies p
stands number [] aid p e = absurd cc
stands number (body ∷ bodies) aid p e =
    by_applet (applet_in aid body) refl e (λ q. stands (suc number) bodies aid p q)
  where
    by_applet : (o : Option Applet) → applet_in aid body ≡ o
        → option_map_or (λ (a : Applet). Some (record { number = number; install = a.install })) o
        (applet_from (suc number) bodies aid) ≡ Some p
        → (applet_from (suc number) bodies aid ≡ Some p → Stands (suc number) bodies p)
        → Stands number (body ∷ bodies) p
    by_applet (Some a) f q next =
        let same : record { number = number; install = a.install } ≡ p = cc in
        subst (Stands number (body ∷ bodies)) same (record {
          place = 0;
          body = body;
          there = refl;
          number_is = omega arith;
          row = has_row aid body a f;
        })
    by_applet None f q next =
        let s = next q in record {
          place = suc s.place;
          body = s.body;
          there = s.there;
          number_is = omega (arith, s.number_is);
          row = s.row;
        }

pub place_known : (w : World) → IsWorld w → (aid : List ℕ) (p : AppletPlace)
    → applet_from 1 w.bodies aid ≡ Some p → IsInstallPlace w p
place_known w h aid p e =
    let s = stands 1 w.bodies aid p e in
    let number : p.number ≡ suc s.place = omega (arith, s.number_is) in
    let home : 2 + s.place ≡ home_at p.number = omega (arith, s.number_is) in
    let known = subst (λ n. IsKnown w.shapes n s.body) home (h.known s.place s.body s.there) in
    let row = s.row in record {
      body = s.body;
      there = ap (body_at w) number ∙ s.there;
      known = known;
      method =
          subst (HasInstall w.shapes (home_at p.number) s.body.kept.methods) row.is
          (known.installs row.applets row.place row.applet row.are row.there);
    }

pub places_known : (w : World) → IsWorld w → (aid : List ℕ) (o : Option AppletPlace)
    → o ≡ applet_from 1 w.bodies aid → IfSome o (λ p. IsInstallPlace w p)
places_known w h aid None e = tt
places_known w h aid (Some p) e = place_known w h aid p (sym e)
