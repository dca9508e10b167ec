mod Following
