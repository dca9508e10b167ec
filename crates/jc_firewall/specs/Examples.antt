-- The facts of the objects in the examples.
use Rattle.std.specs.Prelude.{ℕ, Bool, true, false, Option, None, Some}
use Rattle.jc_names.specs.declared.owner.Owner.{Owner}
use Rattle.jc_store.specs.declared.kind.ClearingEvent.{ClearingEvent}
use Rattle.jc_store.specs.declared.kind.Mark.{Mark}
use Rattle.jc_store.specs.declared.kind.Mark.TheVariants.{Plain}
use Rattle.jc_firewall.specs.declared.access.Facts.{Facts}

-- the first instance of a context
abbrev pub owner_in : ℕ → Owner
owner_in context = record { context = context; instance = 1 }

-- an object of a class, with a mark
abbrev pub object_in : ℕ → Mark → Facts
object_in context mark = record {
  owner = owner_in context;
  mark = mark;
  is_array = false;
  clears = None;
  stored = None;
  is_shareable = false;
  is_shared_interface = false;
  selected = None;
}

-- an array, the event that clears it, and the context of the selected applet
abbrev pub array_in : ℕ → Mark → Option ClearingEvent → Option ℕ → Facts
array_in context mark clears selected = record {
  owner = owner_in context;
  mark = mark;
  is_array = true;
  clears = clears;
  stored = None;
  is_shareable = false;
  is_shared_interface = false;
  selected = selected;
}

-- an object that is called by a shareable interface, or cast to one; its class implements Shareable or not
abbrev pub service_in : ℕ → Mark → Bool → Facts
service_in context mark shareable = record {
  owner = owner_in context;
  mark = mark;
  is_array = false;
  clears = None;
  stored = None;
  is_shareable = shareable;
  is_shared_interface = true;
  selected = None;
}

-- an object of context 1 to which a reference to an object with a mark is stored
abbrev pub storing : Mark → Facts
storing mark = record {
  owner = owner_in 1;
  mark = Plain;
  is_array = false;
  clears = None;
  stored = Some mark;
  is_shareable = false;
  is_shared_interface = false;
  selected = None;
}
