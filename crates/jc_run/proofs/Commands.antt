-- Commands on the card, as the defensive machine does them.
use Rattle.std.proofs.Common.{◌≡◌, ℕ, true, List, Option, Some, None, Result, Ok, Err, refl, arith}
use Rattle.jc_card.specs.Card.{CardState}
use Rattle.jc_card.specs.Commands.{Response, apdu_command}
use Rattle.jc_card.specs.Install.{Installed as Outcome, install_command}
use Rattle.jc_card.specs.Parts.{Left}
use Rattle.jc_card.specs.Reads.{CardWords, Holds, IsDone, ReadsInstalled, ReadsResponse}
use Rattle.jc_card.specs.declared.answer.Answer.{Answer}
use Rattle.jc_card.specs.declared.fault.InstallFault.{InstallFault}
use Rattle.jc_natives.specs.Kept.{are_bytes}
use Rattle.jc_run.specs.Answer.{Answered, Installed, NotInstalled, Responds, shown_response}
use Rattle.jc_run.specs.Play.{install_answer}
use Rattle.jc_run.specs.Performs.{Answers}
use Rattle.jc_run.specs.PrivatePlay.{LoadsAs}
use Rattle.jc_script.specs.Script.{Apdu, Install, Load, ScriptCommand}

-- what is read of what a command gives
pub also : {A : Type 0} (done : Option (Left A)) (after : CardWords) (reads says : A → Type 0)
    → ((v : A) → reads v → says v) → IsDone after reads done → IsDone after says done
also done after reads says h1 h2 = grind arith

-- a command that isn't stuck
record Gives {A : Type 0} (done : Option (Left A)) (after : CardWords) (reads : A → Type 0) : Type 0 where
  left : Left A
  is : done ≡ Some left
  holds : Holds after left.card
  reads_it : reads left.value

gives : {A : Type 0} (done : Option (Left A)) (after : CardWords) (reads : A → Type 0) → IsDone after reads done
    → Gives done after reads
gives None after reads h = elim h [ ]
gives (Some l) after reads h = record { left = l; is = refl; holds = h.0; reads_it = h.1 }

-- ---- installs

abbrev pub said_of : Result ℕ InstallFault → Answered
said_of (Ok number) = Installed number
said_of (Err fault) = NotInstalled fault

pub says_install : (result : Result ℕ InstallFault) (outcome : Outcome) → ReadsInstalled result outcome
    → said_of result ≡ install_answer outcome
says_install result outcome h1 = grind arith

pub install_done : (images certificates : List ℕ → List ℕ → Type 0) (c : CardState) (command : ScriptCommand)
    (applet instance incoming : List ℕ) (answer : Answered) (after : CardWords)
    → command ≡ Install applet instance incoming
    → IsDone after (λ outcome. answer ≡ install_answer outcome) (install_command c applet instance incoming)
    → Answers images certificates c command answer after
install_done images certificates c command applet instance incoming answer after is h =
    let g = gives _ after _ h in
    rw is (record {
      card = g.left.card;
      answered = record { left = g.left; is = g.is; after_is = refl; answer_is = g.reads_it };
      holds = g.holds;
    })

-- ---- commands of a reader

pub says_response : (answer : Answer) (response : Response) → ReadsResponse answer response
    → Responds (shown_response answer) ≡ Responds response
says_response answer response h = grind arith

pub apdu_done : (images certificates : List ℕ → List ℕ → Type 0) (c : CardState) (command : ScriptCommand)
    (bytes : List ℕ) (answer : Answered) (after : CardWords) → command ≡ Apdu bytes
    → IsDone after (λ response. answer ≡ Responds response) (apdu_command c bytes)
    → Answers images certificates c command answer after
apdu_done images certificates c command bytes answer after is h =
    let g = gives _ after _ h in
    rw is (record {
      card = g.left.card;
      answered = record { left = g.left; is = g.is; after_is = refl; answer_is = g.reads_it };
      holds = g.holds;
    })

-- ---- loads

pub load_done : (images certificates : List ℕ → List ℕ → Type 0) (c : CardState) (command : ScriptCommand)
    (folder certificate image bytes : List ℕ) (answer : Answered) (after : CardWords)
    → command ≡ Load folder certificate → images folder image → are_bytes image ≡ true → certificates certificate bytes
    → LoadsAs c image bytes answer after → Answers images certificates c command answer after
load_done images certificates c command folder certificate image bytes answer after is held low bytes_held l =
    rw is (record {
      card = l.card;
      answered = record {
        image = image;
        image_held = held;
        image_is_bytes = low;
        bytes = bytes;
        bytes_held = bytes_held;
        result = l.result;
        load = l.load;
        answer_is = l.answer_is;
      };
      holds = l.holds;
    })
